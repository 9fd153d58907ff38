-- The two programs over one run: the board's lines, and the sheet's pages. What each prints of an answer as soon as it is given, and at the end of input.
use Rattle.std.specs.Prelude.{cond, ◌&&◌, ◌||◌, List, [], ◌∷◌, ◌++◌, ℕ, suc, eqb, length}
use Rattle.lines.specs.Bytes.{Bytes}
use Rattle.lines.specs.Session.{Session, Answer}
use Rattle.lines.specs.Output.{printed_answers, at_end, output}
use Rattle.lines.specs.Sheet.{Figures, page, figures_in, closings_in, sheet, sheet_number, is_full, with_closing, page_after}

pub data Program : Type 0 where
  board_program : Program
  sheet_program : Program

-- the whole output
unfoldable pub whole_output : Program → Bytes → Bytes
whole_output board_program input = output input
whole_output sheet_program input = sheet input

-- what a program knows between two answers: the number of the line that is answered next, or the closings on the page so far
pub data Printer : Type 0 where
  numbering : (line : ℕ) → Printer
  filling : (page : List Figures) → Printer

unfoldable pub new_printer : Program → Printer
new_printer board_program = numbering 1
new_printer sheet_program = filling []

-- closings handed to a page one after the other
unfoldable pub page_along : List Figures → List Figures → List Figures
page_along p [] = p
page_along p (f ∷ fs) = page_along (page_after p f) fs

-- the page that a closing fills is printed at once
unfoldable pub filled_by : List Figures → Figures → Bytes
filled_by p f = cond (eqb (sheet_number f) 0 && is_full (with_closing p f)) (page (with_closing p f)) []

unfoldable pub pages_along : List Figures → List Figures → Bytes
pages_along p [] = []
pages_along p (f ∷ fs) = filled_by p f ++ pages_along (page_after p f) fs

-- a page that is not full is printed at the end, if there is a closing on it
unfoldable pub last_page : List Figures → Bytes
last_page p = cond (is_full p || eqb (length p) 0) [] (page p)

-- what is printed of answers
unfoldable pub answers_printed : Printer → List Answer → Bytes
answers_printed (numbering i) answers = printed_answers i answers
answers_printed (filling p) answers = pages_along p (closings_in answers)

unfoldable pub printer_after : Printer → Answer → Printer
printer_after (numbering i) a = numbering (suc i)
printer_after (filling p) a = filling (page_along p (figures_in a))

unfoldable pub end_printed : Printer → Session → Bytes
end_printed (numbering i) s = at_end s.board s.tally
end_printed (filling p) s = last_page p

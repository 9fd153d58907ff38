-- The sheet for the oven door. 02, Two: 'Each closed slot gives a line of exactly 24 bytes before its line end'; 'A page is 50 such lines'.
use Rattle.std.specs.Prelude.{Bool, cond, not, ◌||◌, ℕ, zero, suc, ◌+◌, ◌-◌, ◌^◌, leb, ltb, eqb, length, take, drop, replicate}
use mathlib.Core.List.{List, [], ◌∷◌, ◌++◌, map, flatten, flat_map}
use Rattle.lists.specs.Select.{how_many}
use Rattle.board.specs.Limits.{last_slot, deepest}
use Rattle.board.specs.Rows.{◌if◌, first_given}
use Rattle.lines.specs.Bytes.{Bytes, line_end, letter_G}
use Rattle.lines.specs.Printing.{decimal}
use Rattle.lines.specs.Session.{Closing, Answer, a_refusal, an_opening, an_admitting, a_closing, a_promise, a_withdrawal, run}

unfoldable pub space : ℕ
space = 32

-- 'exactly 24 bytes before its line end'
unfoldable pub line_columns : ℕ
line_columns = 24

-- 'to the right' in so many columns: the last ones of as many spaces and these bytes
unfoldable pub to_right : (width : ℕ) → Bytes → Bytes
to_right w bs = drop (length bs) (replicate w space ++ bs)

-- what stands in a field, and the field's last column
pub record Cell : Type 0 where
  pub text : Bytes
  pub last : ℕ

infix 90 ◌ending_in◌
unfoldable pub ◌ending_in◌ : Bytes → ℕ → Cell
bs ending_in k = record { text = bs; last = k }

-- a line from behind column k on: each cell ends in its field's last column, 'spaces elsewhere'
unfoldable pub line_behind : (column : ℕ) → List Cell → Bytes
line_behind k [] = replicate (line_columns - k) space ++ (line_end ∷ [])
line_behind k (c ∷ cs) = to_right (c.last - k) c.text ++ line_behind c.last cs

unfoldable pub line_with : List Cell → Bytes
line_with cs = line_behind 0 cs

-- the figures of a closing: slot, ticket, grade, racks given up
pub record Figures : Type 0 where
  pub slot : ℕ
  pub ticket : ℕ
  pub grade : ℕ
  pub given_up : ℕ

unfoldable pub figures_of : Closing → Figures
figures_of c = record { slot = c.slot; ticket = c.baked.ticket; grade = c.baked.grade; given_up = length c.given_up }

-- 'slot in columns 1 to 7, ticket in 9 to 18, grade in 20, racks given up in 22 to 24, all decimal and to the right'. Where a field begins is a matter of
-- how long a figure can be: SheetReadBack has these columns.
unfoldable pub slot_line : Figures → Bytes
slot_line f =
    line_with
    (decimal f.slot ending_in 7 ∷ decimal f.ticket ending_in 18 ∷ decimal f.grade ending_in 20 ∷ decimal f.given_up ending_in 24 ∷ [])

-- 'The heading reads SLOT, TICKET, G, OUT, each ending in its field's last column.'
unfoldable pub heading : Bytes
heading =
    line_with
    ((83 ∷ 76 ∷ 79 ∷ 84 ∷ []) ending_in 7
    ∷ (84 ∷ 73 ∷ 67 ∷ 75 ∷ 69 ∷ 84 ∷ []) ending_in 18
    ∷ (letter_G ∷ []) ending_in 20
    ∷ (79 ∷ 85 ∷ 84 ∷ []) ending_in 24
    ∷ [])

-- 'a slot with ticket 0 baked nothing'
unfoldable pub number_baked : List Figures → ℕ
number_baked fs = how_many (λ f. not (eqb f.ticket 0)) fs

unfoldable pub number_given_up : List Figures → ℕ
number_given_up [] = 0
number_given_up (f ∷ fs) = f.given_up + number_given_up fs

-- 'The totals line has that page's number baked in 9 to 18 and given up in 19 to 24, spaces elsewhere'
unfoldable pub totals_line : List Figures → Bytes
totals_line fs = line_with (decimal (number_baked fs) ending_in 18 ∷ decimal (number_given_up fs) ending_in 24 ∷ [])

-- 'lines of spaces'
unfoldable pub blank_line : Bytes
blank_line = line_with []

-- '48 slots'
unfoldable pub page_slots : ℕ
page_slots = 48

-- The lines of a page: 'a heading, 48 slots, a line of totals'. 'The last page is filled with lines of spaces before its totals.'
unfoldable pub page_lines : List Figures → List Bytes
page_lines fs = heading ∷ (map slot_line fs ++ (replicate (page_slots - length fs) blank_line ++ (totals_line fs ∷ [])))

unfoldable pub page : List Figures → Bytes
page fs = flatten (page_lines fs)

-- closings cut into pages, 48 on each but the last; no more than so many pages
unfoldable pub cut_in_pages : ℕ → List Figures → List (List Figures)
cut_in_pages zero fs = []
cut_in_pages (suc n) [] = []
cut_in_pages (suc n) (f ∷ fs) = take page_slots (f ∷ fs) ∷ cut_in_pages n (drop page_slots (f ∷ fs))

-- the pages of closings: none for none
unfoldable pub pages : List Figures → List Bytes
pages fs = map page (cut_in_pages (length fs) fs)

-- the figures that an answer brings to the sheet: those of a closing, and else none
unfoldable pub figures_in : Answer → List Figures
figures_in (a_refusal n) = []
figures_in (an_opening d) = []
figures_in (an_admitting t k) = []
figures_in (a_closing c) = figures_of c ∷ []
figures_in (a_promise w) = []
figures_in (a_withdrawal t) = []

unfoldable pub closings_in : List Answer → List Figures
closings_in answers = flat_map figures_in answers

-- The program: 'reads the board's input as one day and prints only these pages; a day with no closed slot prints nothing'.
unfoldable pub sheet : Bytes → Bytes
sheet input = flatten (pages (closings_in (run input).answers))

-- Number 16: 'a closing handed to the sheet has a slot above 1,000,000, a grade above 7 or more than 255 given up'.
unfoldable pub most_given_up : ℕ
most_given_up = 255

unfoldable pub sheet_number : Figures → ℕ
sheet_number f = first_given (16 if (ltb last_slot f.slot || leb (2 ^ deepest) f.grade || ltb most_given_up f.given_up) ∷ [])

unfoldable pub is_full : List Figures → Bool
is_full p = leb page_slots (length p)

-- The page with a closing more. A full page takes no more: the closing begins the next one.
unfoldable pub with_closing : List Figures → Figures → List Figures
with_closing p f = cond (is_full p) (f ∷ []) (p ++ (f ∷ []))

-- The page after a closing is handed to it; where that is refused 'the page is then as before'.
unfoldable pub page_after : List Figures → Figures → List Figures
page_after p f = cond (eqb (sheet_number f) 0) (with_closing p f) p

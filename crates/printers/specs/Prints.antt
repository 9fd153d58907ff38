-- What is printed of an answer where it fits, and what the printer holds after it.
use Rattle.std.specs.Prelude.{◌≡◌, ℕ, ◌+◌, ◌%◌, ◌^◌, ◌<◌, Bool, cond, List, [], ◌∷◌, length}
use Rattle.lines.specs.Bytes.{Bytes}
use Rattle.lines.specs.Printers.{answers_printed, printer_after}
use Rattle.buffer.specs.Puts.{PutIf}
use Rattle.answers.specs.declared.Answer.{Answer as AnswerHeld}
use Rattle.answers.specs.declared.Answer.TheVariants.{Refused, Opened, Admitted, Promised, Withdrawn, Closed}
use Rattle.answers.specs.Printed.{answer_of, answer_room, answer_fits}
use Rattle.page.specs.declared.Page.{Page}
use Rattle.page.specs.Pages.{handed_over}
use Rattle.printers.specs.declared.Program.{Program as ProgramRun}
use Rattle.printers.specs.declared.Program.TheVariants.{Board, Sheet}
use Rattle.printers.specs.declared.Printer.{Printer as PrinterHeld}
use Rattle.printers.specs.Programs.{printer_of}

-- the number behind a line's: behind the greatest of 64 bits comes 0
unfoldable pub next_number : ℕ → ℕ
next_number n = (n + 1) % 2 ^ 64

-- the page after an answer with so many jobs given up: a closing is handed to it
unfoldable pub page_held : Page → AnswerHeld → (listed : ℕ) → Page
page_held p (Refused n) l = p
page_held p (Opened d) l = p
page_held p (Admitted t k) l = p
page_held p (Promised w) l = p
page_held p (Withdrawn t) l = p
page_held p (Closed c) l = (handed_over p (record { slot = c.slot; ticket = c.ticket; grade = c.grade; listed = l })).page

-- what each program's printer holds after it
unfoldable pub held_by : ProgramRun → PrinterHeld → AnswerHeld → (listed : ℕ) → PrinterHeld
held_by Board k a l = record { program = k.program; number = next_number k.number; page = k.page }
held_by Sheet k a l = record { program = k.program; number = k.number; page = page_held k.page a l }

unfoldable pub held_after : PrinterHeld → AnswerHeld → (listed : ℕ) → PrinterHeld
held_after k a l = held_by k.program k a l

-- an answer printed at `at` in the buffer up to `r`, and what is held and known after it; where it does not fit the buffer and the printer are as they were
pub record PrintedIf (fits : Bool) (k : PrinterHeld) (a : AnswerHeld) (T G : List ℕ) (out : Bytes) (at : ℕ) (k' : PrinterHeld) (r : ℕ) (out' : Bytes) : Type 0 where
  pub put : PutIf fits answer_room (answers_printed (printer_of k) (answer_of a T G ∷ [])) out at r out'
  pub printer : k' ≡ cond fits (held_after k a (length T)) k
  pub known : k.number + 1 < 2 ^ 64 → printer_of k' ≡ cond fits (printer_after (printer_of k) (answer_of a T G)) (printer_of k)

-- an answer's lines printed for a printer of the board's program that knows this number, and the number that it knows after them
abbrev pub LinesPrinted : (number : ℕ) → AnswerHeld → (T G : List ℕ) → (out : Bytes) → (at : ℕ) → (number' : ℕ) → (r : ℕ) → (out' : Bytes) → Type 0
LinesPrinted n a T G out at n' r out' =
    (k : PrinterHeld) → k.program ≡ Board → k.number ≡ n
    → PrintedIf (answer_fits (length T) (length G) at (length out)) k a T G out at (record { program = k.program; number = n'; page = k.page }) r out'

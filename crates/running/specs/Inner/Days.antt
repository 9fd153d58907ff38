-- A line answered: the day after it, what was printed, and what the printer knows then.
use Rattle.std.specs.Prelude.{◌≡◌, [], ◌∷◌, ℕ, ◌+◌, ◌≤◌, length}
use Rattle.lines.specs.Bytes.{Bytes}
use Rattle.lines.specs.Session.{Session, step, session_after}
use Rattle.lines.specs.Printers.{Printer, answers_printed, printer_after}
use Rattle.buffer.specs.Puts.{put}
use Rattle.answers.specs.Printed.{answer_room}
use Rattle.printers.specs.declared.Printer.{Printer as PrinterHeld}
use Rattle.printers.specs.Programs.{printer_of}
use Rattle.session.specs.declared.Day.{Day}
use Rattle.session.specs.Inner.Days.{session_of, GoodDay}

-- the day and the printer after a line, and where its print ends in the buffer
pub record DayAfter : Type 0 where
  pub day : Day
  pub printer : PrinterHeld
  pub at : ℕ

abbrev pub after_line : Day → PrinterHeld → ℕ → DayAfter
after_line d k end = record { day = d; printer = k; at = end }

-- these bytes printed at `at` in the buffer, no more than an answer has; the day after them has this session, and the printer knows this
pub record Given (bs : Bytes) (s : Session) (p : Printer) (out : Bytes) (at : ℕ) (r : DayAfter) (out' : Bytes) : Type 0 where
  pub good : GoodDay r.day
  pub session : session_of r.day ≡ s
  pub printer : printer_of r.printer ≡ p
  pub end : r.at ≡ at + length bs
  pub within : r.at ≤ at + answer_room
  pub bytes : out' ≡ put out at bs

-- a line answered: the session is the definition's, and so are the bytes; it is numbered one further at the most
pub record Answered (day : Day) (k : PrinterHeld) (line out : Bytes) (at : ℕ) (r : DayAfter) (out' : Bytes) : Type 0 where
  pub given : let a = step (session_of day).board line in
      Given (answers_printed (printer_of k) (a.answer ∷ [])) (session_after (session_of day) a) (printer_after (printer_of k) a.answer) out at r out'
  pub number : r.printer.number ≤ k.number + 1

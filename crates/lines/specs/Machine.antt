-- A run byte by byte: what stands between two bytes, and which answers each byte brings. Of a line that is too long no further byte is kept: it is
-- refused whatever it holds.
use Rattle.std.specs.Prelude.{◌≡◌, cond, List, [], ◌∷◌, ◌++◌, ℕ, suc, eqb, length}
use Rattle.lines.specs.Bytes.{Bytes, line_end}
use Rattle.lines.specs.Reading.{longest_line, too_long}
use Rattle.lines.specs.Session.{Session, new_session, Answer, Step, step, session_after, run}
use Rattle.lines.specs.Printers.{Program, whole_output, Printer, new_printer, answers_printed, printer_after, end_printed}

-- the session, what the program's printer knows, and the bytes so far of the line that is being read
pub record Machine : Type 0 where
  pub session : Session
  pub printer : Printer
  pub partial : Bytes

unfoldable pub new_machine : Program → Machine
new_machine g = record { session = new_session; printer = new_printer g; partial = [] }

-- the line so far with a byte more
unfoldable pub extend : ℕ → Bytes → Bytes
extend b l = cond (too_long l) l (l ++ (b ∷ []))

-- so many bytes of a line are kept at the most
unfoldable pub partial_room : ℕ
partial_room = suc longest_line

-- what the line so far does where it ends
unfoldable pub line_step : Machine → Step
line_step m = step m.session.board m.partial

-- a byte ends a line, which is answered, or none
unfoldable pub answered_by : Machine → ℕ → List Answer
answered_by m b = cond (eqb b line_end) ((line_step m).answer ∷ []) []

unfoldable pub after_byte : Machine → ℕ → Machine
after_byte m b =
    cond (eqb b line_end)
    (record { session = session_after m.session (line_step m); printer = printer_after m.printer (line_step m).answer; partial = [] })
    (record { session = m.session; printer = m.printer; partial = extend b m.partial })

-- bytes one after the other
unfoldable pub after_bytes : Machine → Bytes → Machine
after_bytes m [] = m
after_bytes m (b ∷ bs) = after_bytes (after_byte m b) bs

unfoldable pub answers_along : Machine → Bytes → List Answer
answers_along m [] = []
answers_along m (b ∷ bs) = answered_by m b ++ answers_along (after_byte m b) bs

-- the end of input ends a line that has begun
unfoldable pub last_answers : Machine → List Answer
last_answers m = cond (eqb (length m.partial) 0) [] ((line_step m).answer ∷ [])

unfoldable pub last_session : Machine → Session
last_session m = cond (eqb (length m.partial) 0) m.session (session_after m.session (line_step m))

-- the printer after the last line
unfoldable pub last_printer : Machine → Printer
last_printer m = cond (eqb (length m.partial) 0) m.printer (printer_after m.printer (line_step m).answer)

-- what the program prints along bytes, and at the end of input
unfoldable pub printed_along : Machine → Bytes → Bytes
printed_along m bs = answers_printed m.printer (answers_along m bs)

unfoldable pub printed_at_end : Machine → Bytes
printed_at_end m = answers_printed m.printer (last_answers m) ++ end_printed (last_printer m) (last_session m)

-- bytes one after the other, and then the end of input, are answered as the whole input is, and print the program's output
pub record AsTheWhole (g : Program) (input : Bytes) (m : Machine) : Type 0 where
  pub answers : (run input).answers ≡ answers_along (new_machine g) input ++ last_answers m
  pub session : (run input).session ≡ last_session m
  pub printed : whole_output g input ≡ printed_along (new_machine g) input ++ printed_at_end m

unfoldable pub ByteByByte : Type 0
ByteByByte = (g : Program) (input : Bytes) → AsTheWhole g input (after_bytes (new_machine g) input)

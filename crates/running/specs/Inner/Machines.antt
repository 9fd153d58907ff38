-- What the program holds between two bytes, as the machine of the definitions; what a chunk of bytes does, and what the end of input does.
use Rattle.std.specs.Prelude.{◌≡◌, ℕ, ◌+◌, ◌*◌, ◌≤◌, ◌<◌, length}
use Rattle.lines.specs.Bytes.{Bytes}
use Rattle.lines.specs.Machine.{Machine, new_machine, after_bytes, printed_along}
use Rattle.buffer.specs.Puts.{put}
use Rattle.cutting.specs.Cut.{partial_bytes, part}
use Rattle.answers.specs.Printed.{answer_room}
use Rattle.printers.specs.declared.Program.{Program as ProgramRun}
use Rattle.printers.specs.Programs.{program_of, printer_of}
use Rattle.session.specs.Inner.Days.{session_of}
use Rattle.running.specs.declared.state.State.{State}
use Rattle.running.specs.declared.feed.Fed.{Fed}

unfoldable pub machine_of : State → Machine
machine_of k = record { session = session_of k.day; printer = printer_of k.printer; partial = partial_bytes k.partial }

-- the state of a program before the first byte
pub record NewState (g : ProgramRun) (k : State) : Type 0 where
  pub machine : machine_of k ≡ new_machine (program_of g)
  pub number : k.printer.number ≡ 1

-- the state after some of a chunk, how far the chunk is used then, and where the output ends in the buffer
pub record After : Type 0 where
  pub state : State
  pub used : ℕ
  pub at : ℕ

abbrev pub after : State → Fed → After
after k r = record { state = k; used = r.used; at = r.at }

-- a part of a chunk taken in: the machine is the definition's, and so are the bytes printed, put at `at` in the buffer
pub record TakenIn (state : State) (chunk : Bytes) (from : ℕ) (out : Bytes) (at : ℕ) (r : After) (out' : Bytes) : Type 0 where
  pub forward : from ≤ r.used
  pub inside : r.used ≤ length chunk
  pub number : r.state.printer.number + from ≤ state.printer.number + r.used
  pub machine : machine_of r.state ≡ after_bytes (machine_of state) (part chunk from r.used)
  pub end : r.at ≡ at + length (printed_along (machine_of state) (part chunk from r.used))
  pub few : r.at + answer_room * from ≤ at + answer_room * r.used
  pub fits : r.at ≤ length out
  pub bytes : out' ≡ put out at (printed_along (machine_of state) (part chunk from r.used))

-- while the buffer has room for what a line may print the chunk is used on, to its end
pub record GoesOn (chunk : Bytes) (from : ℕ) (out : Bytes) (at : ℕ) (r : After) : Type 0 where
  pub further : at + answer_room ≤ length out → from < length chunk → from < r.used
  pub to_the_end : r.at + answer_room ≤ length out → r.used ≡ length chunk

-- bytes printed at `at` in the buffer, which end at `r`
pub record PutAt (printed : Bytes) (out : Bytes) (at : ℕ) (r : ℕ) (out' : Bytes) : Type 0 where
  pub end : r ≡ at + length printed
  pub fits : r ≤ length out
  pub bytes : out' ≡ put out at printed

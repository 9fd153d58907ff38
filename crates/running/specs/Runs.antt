-- What a run of the program does, as far as a contract can say it: which bytes the system gives to a read, and what it does with those that a write
-- hands it, no contract can say. It says how many.
use Rattle.std.specs.Prelude.{◌≡◌, ℕ, ◌+◌, ◌*◌, ◌^◌, ◌≤◌, ◌<◌, length, Result, Ok, Err, OnOk}
use Rattle.lines.specs.Bytes.{Bytes}
use Rattle.lines.specs.Printers.{Program, whole_output}
use Rattle.lines.specs.Machine.{new_machine, after_bytes, printed_along}
use Rattle.answers.specs.Printed.{answer_room}
use Rattle.printers.specs.declared.Program.{Program as ProgramRun}
use Rattle.running.specs.declared.state.State.{State}
use Rattle.status.specs.declared.Stop.{Stop}
use Rattle.status.specs.declared.Stop.TheVariants.{ReadFailed, WriteFailed, TooLong}
use Rattle.status.specs.declared.Outcome.{Outcome}
use Rattle.running.specs.declared.run.Progress.{Progress}
use Rattle.running.specs.Inner.Machines.{NewState, machine_of}

-- `Outcome::MOST_READ`
unfoldable pub most_read : ℕ
most_read = 2 ^ 48

-- bytes of a buffer, and of a chunk at the most: `BUFFER` of running/src/run.rt
unfoldable pub buffer_length : ℕ
buffer_length = 65_536

-- a run of this program before its first read
pub record Begun (g : ProgramRun) (run : Progress) : Type 0 where
  pub new : NewState g run.state
  pub read : run.read ≡ 0
  pub written : run.written ≡ 0

-- what a run has done, where it ends so
abbrev pub outcome_of : Progress → Result Unit Stop → Outcome
outcome_of run ended = record { ended = ended; read = run.read; written = run.written }

-- so many bytes handed to writes, of which all were taken, or else a part: how many had been written before, and after
unfoldable pub WrittenSo : Result Unit Stop → (before count after : ℕ) → Type 0
WrittenSo (Ok _) before count after = after ≡ before + count
WrittenSo (Err (ReadFailed _)) before count after = ⊥
WrittenSo (Err (WriteFailed _)) before count after = after < before + count
WrittenSo (Err TooLong) before count after = ⊥

-- A chunk taken in. All that it prints was written, or else a part.
pub record ChunkTaken (before : Progress) (chunk : Bytes) (after : Progress) (ended : Result Unit Stop) : Type 0 where
  pub number : after.state.printer.number ≤ before.state.printer.number + length chunk
  pub read : after.read ≡ before.read + length chunk
  pub few : after.written ≤ before.written + answer_room * length chunk
  pub machine : OnOk ended (machine_of after.state ≡ after_bytes (machine_of before.state) chunk)
  pub written : WrittenSo ended before.written (length (printed_along (machine_of before.state) chunk)) after.written

-- the bytes that a program's run has written when it ends so, of the bytes that it read
unfoldable pub EndsSo : Program → Result Unit Stop → (written : ℕ) → (input : Bytes) → Type 0
EndsSo g (Ok _) w input = w ≡ length (whole_output g input)
EndsSo g (Err (ReadFailed _)) w input = w ≡ length (printed_along (new_machine g) input)
EndsSo g (Err (WriteFailed _)) w input = w < length (whole_output g input)
EndsSo g (Err TooLong) w input = (most_read ≤ length input) × (w ≡ length (printed_along (new_machine g) input))

-- A run: the bytes that it read, one after the other, and what it had written when it ended. Where it ends whole that is the whole output.
pub record Ran (g : Program) (r : Outcome) : Type 0 where
  pub input : Bytes
  pub count : r.read ≡ length input
  pub ends : EndsSo g r.ended r.written input

-- No more bytes, after so many read and written: it ended so, whatever bytes led to this state and this number written.
pub record Stopped (state : State) (read written : ℕ) (r : Outcome) : Type 0 where
  pub same : r.read ≡ read
  pub ends : (g : Program) (input : Bytes) → machine_of state ≡ after_bytes (new_machine g) input → written ≡ length (printed_along (new_machine g) input)
      → EndsSo g r.ended r.written input

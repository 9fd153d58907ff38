-- What a run of the program does, as far as a contract can say it: which bytes the system gives to a read, and what it does with those that a write
-- hands it, no contract can say. It says how many.
use Rattle.std.specs.Prelude.{◌≡◌, ℕ, ◌≤◌, ◌<◌, length, Result, Ok, Err}
use Rattle.lines.specs.Bytes.{Bytes}
use Rattle.status.specs.declared.Stop.{Stop}
use Rattle.status.specs.declared.Stop.TheVariants.{ReadFailed, WriteFailed, TooLong}
use Rattle.status.specs.declared.Outcome.{Outcome}
use Rattle.worklist.specs.Output.{list_output}
use Rattle.worklist.specs.Statements.{most_read}

-- the bytes that a run has written when it ends so, of the bytes that it read; it never ends for too long an input
unfoldable pub EndsSo : Result Unit Stop → (written : ℕ) → (input : Bytes) → Type 0
EndsSo (Ok _) w input = w ≡ length (list_output input)
EndsSo (Err (ReadFailed _)) w input = w ≡ 0
EndsSo (Err (WriteFailed _)) w input = w < length (list_output input)
EndsSo (Err TooLong) w input = ⊥

-- A run: the bytes that it read, and what it had written when it ended. It reads no more than settle what is printed (`Worklist`, field `enough`).
pub record Ran (r : Outcome) : Type 0 where
  pub input : Bytes
  pub few : length input ≤ most_read
  pub count : r.read ≡ length input
  pub ends : EndsSo r.ended r.written input

-- these bytes answered
pub record Answered (input : Bytes) (r : Outcome) : Type 0 where
  pub count : r.read ≡ length input
  pub ends : EndsSo r.ended r.written input

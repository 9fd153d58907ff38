-- What is proved of the program's definition.
use Rattle.std.specs.Prelude.{◌≡◌, List, ◌++◌, ℕ, suc, ◌*◌, ◌≤◌, length}
use Rattle.std.proofs.Math.Option.{none}
use Rattle.lines.specs.Bytes.{Bytes}
use Rattle.lines.specs.Reading.{longest_line}
use Rattle.matching.specs.Windows.{most_jobs, windows_of}
use Rattle.matching.specs.Assignments.{IsBest}
use Rattle.matching.specs.Answer.{best_day}
use Rattle.worklist.specs.Refusals.{refused_in}
use Rattle.worklist.specs.Output.{jobs_in, list_output}

-- `Collected::MOST_READ`: as many lines as are read, each of the longest length, with their line ends
unfoldable pub most_read : ℕ
most_read = suc most_jobs * suc longest_line

pub record Worklist : Type 0 where
  -- what is printed of a list that is not refused is a best plan of its racks
  pub best : (ls : List Bytes) → refused_in ls ≡ none → ((best_day (jobs_in ls)).refusal ≡ 0) × IsBest (windows_of (jobs_in ls)) (best_day (jobs_in ls)).slots
  -- no byte after so many changes what is printed, so that the program need read no more
  pub enough : (input more : Bytes) → most_read ≤ length input → list_output (input ++ more) ≡ list_output input

-- What the lines of a list are gathered into.
use Rattle.std.specs.Prelude.{◌≡◌, Bool, cond, List, [], ◌∷◌, map, ℕ, zero, suc, ◌+◌, ◌≤◌, ltb, eqb, length, set, Option as Perhaps, Some, None}
use Rattle.std.proofs.Math.Option.{Option, none, some}
use Rattle.lines.specs.Bytes.{Bytes, lines}
use Rattle.matching.specs.declared.Window.{Window}
use Rattle.matching.specs.declared.Jobs.{Jobs}
use Rattle.matching.specs.Windows.{most_jobs, is_window, windows_of}
use Rattle.worklist.specs.declared.Refused.{Refused}
use Rattle.worklist.specs.declared.Collected.{Collected}
use Rattle.worklist.specs.Lines.{window_rows, window_in}
use Rattle.worklist.specs.Refusals.{first_refused, read_lines}

-- a refusal as the definitions have it
abbrev pub as_refusal : Perhaps Refused → Option Refused
as_refusal None = none
as_refusal (Some r) = some r

-- the jobs with one more window, while there is a place for it; of one too many only the count is kept
unfoldable pub with_window : Jobs → Window → Jobs
with_window d w =
    cond (ltb d.count most_jobs)
    (record { count = d.count + 1; windows = set d.windows d.count w })
    (record { count = most_jobs + 1; windows = d.windows })

-- the jobs of these lines, of which there is one too many at the most
pub record Gathered (ls : List Bytes) (d : Jobs) : Type 0 where
  pub count : d.count ≡ length ls
  pub few : length ls ≤ suc most_jobs
  pub windows : length ls ≤ most_jobs → windows_of d ≡ map window_in ls

-- the first line that rows 11, 13 and 14 refuse, of those that are read; where none is, their jobs
pub record CollectedFrom (input : Bytes) (r : Collected) : Type 0 where
  pub refused : as_refusal r.refused ≡ first_refused window_rows 1 (read_lines (lines input))
  pub gathered : r.refused ≡ None → Gathered (read_lines (lines input)) r.jobs

-- how many stand before the first that fails the test
unfoldable pub passing : {A : Type 0} → (A → Bool) → List A → ℕ
passing p [] = 0
passing p (a ∷ l) = cond (p a) (suc (passing p l)) 0

-- the line that the call's number names: the first that is one too many, or the first whose slots are refused
unfoldable pub refused_by_call : (number : ℕ) → Jobs → Option Refused
refused_by_call zero d = none
refused_by_call (suc n) d =
    some (record { line = cond (eqb (suc n) 18) (suc most_jobs) (passing is_window (windows_of d) + 1); number = suc n })

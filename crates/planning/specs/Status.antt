-- The program's exit status.
use Rattle.std.specs.Prelude.{◌≡◌, ℕ}
use Rattle.status.specs.Status.{status}
use Rattle.status.specs.declared.Outcome.{Outcome}
use Rattle.planning.specs.Runs.{Ran}

-- the status of a run
pub record Reported (s : ℕ) : Type 0 where
  pub outcome : Outcome
  pub ran : Ran outcome
  pub is : s ≡ status outcome.ended

-- The program's exit status.
use Rattle.std.specs.Prelude.{◌≡◌, ℕ}
use Rattle.lines.specs.Printers.{Program}
use Rattle.status.specs.Status.{status}
use Rattle.status.specs.declared.Outcome.{Outcome}
use Rattle.running.specs.Runs.{Ran}

-- the status of a program's run
pub record Reported (g : Program) (s : ℕ) : Type 0 where
  pub outcome : Outcome
  pub ran : Ran g outcome
  pub is : s ≡ status outcome.ended

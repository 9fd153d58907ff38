-- Room for what the program prints.
use Rattle.std.specs.Prelude.{ℕ, suc, ◌*◌}
use Rattle.printing.specs.Lines.{room}
use Rattle.matching.specs.Windows.{most_jobs}

-- `PLAN_ROOM`: a line for each job, and the sum
unfoldable pub plan_room : ℕ
plan_room = suc most_jobs * room

-- The job that gets a slot, as the code has it.
use Rattle.std.specs.Prelude.{Bool, true, cond, List, ℕ, eqb, ltb, Option, Some, None}
use Rattle.matching.specs.declared.Window.{Window}
use Rattle.matching.specs.Windows.{last_of}
use Rattle.matching.specs.Layout.{no_job}

-- the job of that number, or none
abbrev pub job_of : ℕ → Option ℕ
job_of q = cond (eqb q no_job) None (Some q)

-- the window's last slot is less than that of the best job so far, or there is none so far
abbrev pub beats : List Window → Window → Option ℕ → Bool
beats ws w (Some b) = ltb w.last.0 (last_of ws b)
beats ws w None = true

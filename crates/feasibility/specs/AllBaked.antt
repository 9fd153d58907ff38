-- When all jobs can be baked.
use Rattle.std.specs.Prelude.{◌≡◌, true, ℕ, ℤ, pos}
use mathlib.Core.List.{List, Memᴰ}
use Rattle.std.proofs.Math.Option.{some}
use Rattle.std.specs.Int.Signed.{le_z}
use Rattle.rule.specs.Job.{Job}
use Rattle.rule.specs.Shortfall.{smallest_excess}
use Rattle.books.specs.Schedule.{Schedule}
use Rattle.feasibility.specs.PlanFrom.{waiting, PlanFrom}

-- some plan from now on bakes every one of these jobs
pub record AllBaked (now : ℕ) (A : List Job) : Type 0 where
  pub plan : Schedule
  pub is_plan : PlanFrom now A plan
  pub each : (r : Job) → Memᴰ r A → (s : ℕ) × (plan s ≡ r.ticket)

-- 01: '000 says a set can all be baked when the smallest excess is positive; zero suffices too, and this paper takes zero or more.' It suffices, and
-- less does not.
unfoldable pub ZeroSuffices : Type 0
ZeroSuffices =
    (now : ℕ) (A : List Job) → waiting now A ≡ true → (x : ℤ) → smallest_excess now A ≡ some x
    → (le_z (pos 0) x ≡ true → AllBaked now A) × (AllBaked now A → le_z (pos 0) x ≡ true)

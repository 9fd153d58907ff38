-- What can still be promised, in the present slot `now`. 02, Six.
use Rattle.std.specs.Prelude.{Bool, List, [], ◌∷◌, ◌++◌, ℕ, eqb}
use Rattle.lists.specs.Least.{least_passing}
use Rattle.rule.specs.Job.{Job, job}
use Rattle.rule.specs.Shortfall.{shortfall}

-- 'one further rack of wait w and every rack on the board': the further job comes now
unfoldable pub with_further : (now : ℕ) → List Job → (ticket laxity grade : ℕ) → List Job
with_further now A t w g = A ++ (job t now w g ∷ [])

-- All of these can be baked: they have no shortfall. The further job's ticket and grade have no part in that.
unfoldable pub fits : (now : ℕ) → List Job → (laxity : ℕ) → Bool
fits now A w = eqb (shortfall now (with_further now A 0 w 0)) 0

-- 'the least wait from 1 to' the longest 'such that some plan from the present slot on bakes one further rack of wait w and every rack on the board [..]. It
-- gives 0 if, and only if, there is no such wait.' That these are the plans' words is `PromisedLeast` (feasibility).
unfoldable pub least_promised : (longest now : ℕ) → List Job → ℕ
least_promised longest now A = least_passing (fits now A) longest

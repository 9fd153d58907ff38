-- The shortfall of a set of jobs in the present slot `now`: how far they are more than can be baked. 02, Five.
use Rattle.std.specs.Prelude.{List, [], ◌∷◌, ℕ, suc, ℤ, pos, negsuc}
use Rattle.std.proofs.Math.Option.{Option, none, some}
use Rattle.rule.specs.Job.{Job}
use Rattle.rule.specs.Tight.{excess, tight_laxity}

-- 'The search for the tight wait also hands up the smallest excess': that of l*. Where there are no jobs there is none.
unfoldable pub smallest_excess : ℕ → List Job → Option ℤ
smallest_excess now [] = none
smallest_excess now (r ∷ A) = some (excess now (r ∷ A) (tight_laxity now (r ∷ A)))

-- 'zero where that excess is zero or more, else its size below zero; an empty board has shortfall zero'. The integer `negsuc n` is −(n + 1).
unfoldable pub below_zero : Option ℤ → ℕ
below_zero none = 0
below_zero (some (pos n)) = 0
below_zero (some (negsuc n)) = suc n

unfoldable pub shortfall : ℕ → List Job → ℕ
shortfall now A = below_zero (smallest_excess now A)

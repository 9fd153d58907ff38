-- The shortfall of all jobs: with no bits the tight laxity is that of all, and so is its excess.
use mathlib.Core.Path.{◌≡◌, refl, sym, ap, ◌∙◌}
use mathlib.Core.List.{List, [], ◌∷◌, Memᴰ}
use Prim.Native.Nat.{ℕ, ◌-◌}
use native.Mathlib.Omega.{arith}
use Rattle.rule.specs.Job.{Job}
use Rattle.rule.specs.Grade.{bits, starting}
use Rattle.rule.specs.Shortfall.{smallest_excess, below_zero, shortfall}
use Rattle.rule.proofs.NoRegret.ByBit.{starting_none}
use Rattle.std.specs.Prelude.{Option, is_some, true, false}
use Rattle.smallest.specs.declared.Best.{Best}
use Rattle.search.specs.Inner.Counts.{CountsOf}
use Rattle.search.specs.Inner.Start.{first_bits}
use Rattle.smallest.specs.Inner.Excess.{smallest_in}
use Rattle.search.specs.Inner.Answers.{TightOf, best_of}

-- every grade starts with no bits
pub starting_all : (d : ℕ) (A : List Job) → starting d (first_bits d 0 d) A ≡ A
unfolding bits
starting_all d A =
    let n : d - d ≡ 0 = omega arith in
    ap (λ k. starting d (bits k 0) A) n ∙ starting_none d A

-- the smallest excess that the best tells
smallest_of_best : (now : ℕ) (A : List Job) → smallest_in (best_of now A) ≡ smallest_excess now A
unfolding best_of smallest_excess
smallest_of_best now [] = refl
smallest_of_best now (r ∷ A) = refl

none_of_best : (now : ℕ) (A : List Job) → is_some (best_of now A) ≡ false → A ≡ []
unfolding best_of
none_of_best now [] e = refl
none_of_best now (r ∷ A) e = cc

some_of_best : (now : ℕ) (A : List Job) → is_some (best_of now A) ≡ true → (r : Job) × Memᴰ r A
unfolding best_of
some_of_best now [] e = cc
some_of_best now (r ∷ A) e = (r, Memᴰ.head refl)

module _ (now d : ℕ) (A : List Job) (t : List ℕ) (C : CountsOf now d A t) (best : Option Best) (T : TightOf t 0 d best) where
  is_best : best ≡ best_of now A
  is_best = T now d A (omega arith) C ∙ ap (best_of now) (starting_all d A)

  pub shortfall_found : below_zero (smallest_in best) ≡ shortfall now A
  unfolding shortfall
  shortfall_found = ap (λ x. below_zero (smallest_in x)) is_best ∙ ap below_zero (smallest_of_best now A)

  -- no laxity, no jobs
  pub no_job : is_some best ≡ false → A ≡ []
  no_job z = none_of_best now A (sym (ap is_some is_best) ∙ z)

  pub some_job : is_some best ≡ true → (r : Job) × Memᴰ r A
  some_job n = some_of_best now A (sym (ap is_some is_best) ∙ n)

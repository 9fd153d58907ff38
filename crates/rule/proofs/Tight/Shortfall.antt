-- The shortfall by counts: no laxity has more jobs, beyond itself, than the shortfall, and the tight laxity has as many.
use mathlib.Core.Path.{◌≡◌, refl, sym, ap, ◌∙◌}
use mathlib.Core.Bool.{true}
use mathlib.Core.Logic.{◌⊎◌, inl, inr}
use mathlib.Core.List.Memᴰ
use mathlib.Core.List.{List, [], ◌∷◌, map, Memᴰ}
use mathlib.Core.Option.{some}
use Prim.Native.Nat.{ℕ, suc, ◌+◌, ◌-◌, ◌≤◌, ◌<◌}
use native.Mathlib.Omega.{arith}
use lib.Dec.{leb}
use lib.IntN.{ℤ, pos, negsuc, ◌-ℤ◌}
use lib.Signed.{le_z}
use borrow.Author.Tests.{le-leb}
use Rattle.lists.specs.Select.{how_many}
use Rattle.lists.proofs.Tests.{cmp, never}
use Rattle.lists.proofs.Counting.{count_map}
use Rattle.lists.proofs.UpTo.{up_to_in, everywhere}
use Rattle.rule.specs.Job.{Job, laxity}
use Rattle.rule.specs.Tight.{excess, tight_laxity}
use Rattle.rule.specs.Shortfall.{smallest_excess, below_zero, shortfall}
use Rattle.rule.proofs.Tight.Excess.{up_to, difference_up, difference_down}
use Rattle.rule.proofs.Tight.Laxity.{tight_laxity_is}

below_zero_difference : (a b : ℕ) → below_zero (some (pos a -ℤ pos b)) ≡ b - a
unfolding below_zero
below_zero_difference a b = go (cmp b a)
  where
    go : (b ≤ a) ⊎ (a < b) → below_zero (some (pos a -ℤ pos b)) ≡ b - a
    go (inl h) = let z : 0 ≡ b - a = omega arith in ap (λ x. below_zero (some x)) (difference_up a b h) ∙ z
    go (inr h) = let z : suc (b - (a + 1)) ≡ b - a = omega arith in ap (λ x. below_zero (some x)) (difference_down a b h) ∙ z

-- the jobs up to the tight laxity, less that laxity
pub shortfall_is : (now : ℕ) (A : List Job) → shortfall now A ≡ up_to now A (tight_laxity now A) - tight_laxity now A
unfolding shortfall smallest_excess excess below_zero how_many
shortfall_is now [] = omega arith
shortfall_is now (r ∷ A) = below_zero_difference (tight_laxity now (r ∷ A)) (up_to now (r ∷ A) (tight_laxity now (r ∷ A)))

-- the counts of a list of jobs are those of its laxities
up_to_laxities : (now : ℕ) (A : List Job) (l : ℕ) → up_to_in (map (laxity now) A) l ≡ up_to now A l
up_to_laxities now A l = count_map (laxity now) (λ x. leb x l) A

-- at every laxity, whether a job has it or not
at_every_laxity : (now : ℕ) (A : List Job) (k : ℕ) → ((r : Job) → Memᴰ r A → up_to now A (laxity now r) ≤ laxity now r + k) → (l : ℕ)
    → up_to now A l ≤ l + k
at_every_laxity now A k h l =
    omega (
      arith,
      up_to_laxities now A l,
      everywhere (map (laxity now) A) k
          (λ x m.
          let r = Memᴰ.of_map (laxity now) A m in
          omega (arith, h r.0 r.1, up_to_laxities now A x, r.2, ap (up_to now A) r.2))
          l,
    )

pub shortfall_covers : (now : ℕ) (A : List Job) (l : ℕ) → up_to now A l ≤ l + shortfall now A
shortfall_covers now [] l = unfold how_many in omega arith
shortfall_covers now (q ∷ A) l =
    at_every_laxity now (q ∷ A) (shortfall now (q ∷ A))
    (λ r m. omega (arith, (tight_laxity_is now (q ∷ A) (Memᴰ.head refl)).least r m, shortfall_is now (q ∷ A))) l

-- the smallest excess is zero or more exactly where there is no shortfall
module _ (now : ℕ) (A : List Job) (x : ℤ) (e : smallest_excess now A ≡ some x) where
  pub none_short : le_z (pos 0) x ≡ true → shortfall now A ≡ 0
  unfolding shortfall below_zero
  none_short h = ap below_zero e ∙ go x h
    where
      go : (x : ℤ) → le_z (pos 0) x ≡ true → below_zero (some x) ≡ 0
      go (pos n) h = refl
      go (negsuc n) h = never h refl

  pub zero_or_more : shortfall now A ≡ 0 → le_z (pos 0) x ≡ true
  unfolding shortfall below_zero
  zero_or_more h = go x (sym (ap below_zero e) ∙ h)
    where
      go : (x : ℤ) → below_zero (some x) ≡ 0 → le_z (pos 0) x ≡ true
      go (pos n) h = le-leb 0 n (omega arith)
      go (negsuc n) h = absurd (omega arith)

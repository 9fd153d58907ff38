-- A test of two slots that some slots pass.
use mathlib.Core.Path.{◌≡◌, ap}
use mathlib.Core.Bool.{Bool, true, false, not}
use Prim.Native.Nat.{ℕ, suc, ◌≤◌}
use native.Mathlib.Omega.{arith}
use borrow.Author.Tests.{not-true, not-false}
use Rattle.lists.proofs.Tests.{never, test}
use mathlib.Core.Logic.{◌⊎◌, inl, inr}
use Rattle.matching.specs.Below.{all_below}
use Rattle.matching.specs.Windows.{slot_count}
use Rattle.matching.proofs.Below.All.{all_at, not_all}

module _ (p : ℕ → ℕ → Bool) where
  none_with : ℕ → Bool
  none_with a = all_below (λ b. not (p a b)) (suc slot_count)

  pub some_pass : Bool
  some_pass = not (all_below none_with (suc slot_count))

  pub record Passing : Type 0 where
    pub from : ℕ
    pub to : ℕ
    pub from_small : from ≤ slot_count
    pub to_small : to ≤ slot_count
    pub passes : p from to ≡ true

  pub pass_yes : (a b : ℕ) → a ≤ slot_count → b ≤ slot_count → p a b ≡ true → some_pass ≡ true
  unfolding some_pass none_with
  pass_yes a b h k e = go (test (all_below none_with (suc slot_count)))
    where
      go : (all_below none_with (suc slot_count) ≡ true) ⊎ (all_below none_with (suc slot_count) ≡ false) → not (all_below none_with (suc slot_count)) ≡ true
      go (inl y) = never e (not-true (p a b) (all_at (λ b. not (p a b)) (suc slot_count) b (all_at none_with (suc slot_count) a y (omega arith)) (omega arith)))
      go (inr y) = ap not y

  pub passing : some_pass ≡ true → Passing
  unfolding some_pass none_with
  passing e =
      let r = not_all none_with (suc slot_count) (not-true (all_below none_with (suc slot_count)) e) in
      let s = not_all (λ b. not (p r.at b)) (suc slot_count) r.fails in
      record { from = r.at; to = s.at; from_small = omega (arith, r.below); to_small = omega (arith, s.below); passes = not-false (p r.at s.at) s.fails }

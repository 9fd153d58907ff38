-- How many stand before the first that fails a test.
use mathlib.Core.Path.{◌≡◌, refl, sym, ◌∙◌}
use mathlib.Core.Bool.{Bool, true, false, not, cond}
use mathlib.Core.List.{List, ◌∷◌}
use mathlib.Core.Logic.{◌⊎◌, inl, inr}
use Prim.Native.Nat.{ℕ, suc, ◌+◌, ◌≤◌, ◌<◌}
use native.Mathlib.Omega.{arith}
use lib.ListN.{length}
use borrow.Author.Tests.{lt-ltb, le-ltb}
use Rattle.std.specs.Option.{unwrap_or}
use Rattle.std.specs.List.{position, position_or_len}
use Rattle.std.proofs.lemmas.List.Recursion.{is_position_or_len}
use Rattle.std.proofs.lemmas.List.Sums.{prefix_len-le-length}
use Rattle.lists.proofs.Tests.{cmp, cond_true, cond_false}
use Rattle.worklist.specs.Inner.Collecting.{passing}

module _ {A : Type 0} (p : A → Bool) where
  pub passing_yes : (a : A) (l : List A) → p a ≡ true → passing p (a ∷ l) ≡ suc (passing p l)
  unfolding passing
  passing_yes a l e = cond_true (p a) (suc (passing p l)) 0 e

  pub passing_no : (a : A) (l : List A) → p a ≡ false → passing p (a ∷ l) ≡ 0
  unfolding passing
  passing_no a l e = cond_false (p a) (suc (passing p l)) 0 e

  -- the library's words: the first that fails is found there, or none is
  passing_position : (l : List A) → passing p l ≡ position_or_len (λ x. not (p x)) l
  unfolding passing
  passing_position l = is_position_or_len (passing p) (λ x. not (p x)) refl (λ x xs. go (p x) (passing p xs)) l
    where
      go : (b : Bool) (n : ℕ) → cond b (suc n) 0 ≡ cond (not b) 0 (1 + n)
      go true n = omega arith
      go false n = refl

  pub passing_within : (l : List A) → passing p l ≤ length l
  passing_within l = omega (arith, passing_position l, prefix_len-le-length (λ x. not (not (p x))) l)

  pub found_first : (l : List A) → unwrap_or (position (λ x. not (p x)) l) (length l) ≡ passing p l
  found_first l = go (cmp (length l) (position_or_len q l)) ∙ sym (passing_position l)
    where
      q : A → Bool
      q = λ x. not (p x)

      go : (length l ≤ position_or_len q l) ⊎ (position_or_len q l < length l) → unwrap_or (position q l) (length l) ≡ position_or_len q l
      go (inl h) = simp (le-ltb (position_or_len q l) (length l) h) (omega (arith, h, prefix_len-le-length (λ x. not (q x)) l))
      go (inr h) = simp (lt-ltb (position_or_len q l) (length l) h)

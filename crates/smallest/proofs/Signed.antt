-- The excess as an i32, and the order of two.
use mathlib.Core.Path.{◌≡◌, refl, sym, ap, ◌∙◌}
use mathlib.Core.Bool.{not}
use mathlib.Core.Logic.{⊎_elim}
use mathlib.Core.Option.{some}
use Prim.Native.Nat.{ℕ, zero, suc, ◌+◌, ◌≤◌, ◌<◌, ◌^◌}
use native.Mathlib.Omega.{arith}
use lib.Dec.{leb, ltb}
use lib.IntN.{ℤ, pos, negsuc, ◌-ℤ◌, nat_abs}
use Rattle.std.specs.Int.{int_min}
use lib.Signed.{le_z, lt_z}
use mir.Syntax.{w32}
use mir.Val.{to_z}
use borrow.Author.Tests.{lt-ltb, le-ltb, le-leb, lt-leb}
use Rattle.lists.proofs.Tests.{cmp}
use Rattle.rule.specs.Shortfall.{below_zero}
use Rattle.rule.proofs.Tight.Excess.{difference_order}

-- a small number as a signed one
pub signed : (n : ℕ) → n < 2 ^ 31 → to_z w32 n ≡ pos n
signed n h = rw (lt-ltb n (2 ^ 31)) refl

-- smaller is not at least
less_not : (a b : ℕ) → ltb a b ≡ not (leb b a)
less_not a b = ⊎_elim (λ (h : b ≤ a). simp (le-ltb a b h, le-leb b a h)) (λ (h : a < b). simp (lt-ltb a b h, lt-leb b a h)) (cmp b a)

smaller_not : (x y : ℤ) → lt_z x y ≡ not (le_z y x)
smaller_not (pos a) (pos b) = less_not a b
smaller_not (pos a) (negsuc b) = refl
smaller_not (negsuc a) (pos b) = refl
smaller_not (negsuc a) (negsuc b) = less_not b a

-- a difference is smaller than another where a sum is less than another
pub difference_less : (a b c d : ℕ) → lt_z (pos a -ℤ pos b) (pos c -ℤ pos d) ≡ ltb (a + d) (c + b)
difference_less a b c d = smaller_not (pos a -ℤ pos b) (pos c -ℤ pos d) ∙ ap not (difference_order c d a b) ∙ sym (less_not (a + d) (c + b))

-- how far a number is below zero: the size of the lesser of it and zero
pub size_of_min : (x : ℤ) → nat_abs (int_min x (pos 0)) ≡ below_zero (some x)
unfolding below_zero
size_of_min (pos zero) = refl
size_of_min (pos (suc n)) = rw (lt-ltb 0 (suc n) (omega arith)) refl
size_of_min (negsuc n) = refl

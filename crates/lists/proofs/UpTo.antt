-- How many of some numbers are l or less: a bound at these numbers is one at every l.
use mathlib.Core.Path.{◌≡◌, ap}
use mathlib.Core.Bool.{true, false}
use mathlib.Core.Logic.{⊎_elim}
use mathlib.Core.List.{List, Memᴰ}
use Prim.Native.Nat.{ℕ, zero, suc, ◌+◌, ◌≤◌}
use native.Mathlib.Omega.{arith}
use lib.Dec.{leb, eqb}
use borrow.Author.Tests.{leb-true, le-leb, lt-leb, eqb-true, eqb-false}
use Rattle.lists.specs.Select.{how_many, has}
use Rattle.lists.proofs.Tests.{test, same_test}
use Rattle.lists.proofs.Members.{has_mem, has_none}
use Rattle.lists.proofs.Counting.{count_none, count_cong}

abbrev pub up_to_in : List ℕ → ℕ → ℕ
up_to_in L l = how_many (λ x. leb x l) L

module _ (L : List ℕ) (k : ℕ) (h : (x : ℕ) → Memᴰ x L → up_to_in L x ≤ x + k) where
  -- l is one of the numbers
  here : (l : ℕ) → has (λ x. eqb x l) L ≡ true → up_to_in L l ≤ l + k
  here l e =
      let s = has_mem (λ x. eqb x l) L e in
      omega (arith, h s.0 s.1, ap (up_to_in L) (eqb-true s.0 l s.2), eqb-true s.0 l s.2)

  -- l is none of them
  other : (l x : ℕ) → has (λ x. eqb x l) L ≡ false → Memᴰ x L → x ≡ l → ⊥
  other l x e m q = eqb-false x l (has_none (λ x. eqb x l) e m) q

  none_at_zero : has (λ x. eqb x 0) L ≡ false → up_to_in L 0 ≡ 0
  none_at_zero e = count_none (λ x. leb x 0) L (λ x m. lt-leb x 0 (let n = other 0 x e m in omega arith))

  none_more : (l : ℕ) → has (λ x. eqb x (suc l)) L ≡ false → up_to_in L (suc l) ≡ up_to_in L l
  none_more l e =
      count_cong (λ x. leb x (suc l)) (λ x. leb x l) L
      (λ x m.
      let n = other (suc l) x e m in
      same_test (leb x (suc l)) (leb x l) (λ c. let d = leb-true x (suc l) c in le-leb x l (omega arith))
      (λ c. let d = leb-true x l c in le-leb x (suc l) (omega arith)))

  pub everywhere : (l : ℕ) → up_to_in L l ≤ l + k
  everywhere zero = ⊎_elim (here 0) (λ e. omega (arith, none_at_zero e)) (test (has (λ x. eqb x 0) L))
  everywhere (suc l) = ⊎_elim (here (suc l)) (λ e. omega (arith, none_more l e, everywhere l)) (test (has (λ x. eqb x (suc l)) L))

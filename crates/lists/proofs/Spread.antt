-- How long a list is whose elements have few values, few elements sharing each.
use mathlib.Core.Path.{◌≡◌, sym, ◌∙◌}
use mathlib.Core.Bool.{true, false}
use mathlib.Core.Logic.{◌⊎◌, inl, inr}
use mathlib.Core.List.{List, Memᴰ}
use Prim.Native.Nat.{ℕ, zero, suc, ◌+◌, ◌*◌, ◌≤◌, ◌<◌}
use native.Mathlib.Omega.{arith}
use native.Mathlib.Nat.{suc-mul}
use lib.Dec.{ltb, eqb}
use lib.ListN.{length}
use borrow.Author.Tests.{eqb-true, eq-eqb, lt-ltb, le-ltb, ne_eqb}
use Rattle.lists.specs.Select.{one_if, how_many, has}
use Rattle.lists.proofs.Tests.{cmp, test}
use Rattle.lists.proofs.Members.{has_mem}
use Rattle.lists.proofs.Counting.{one_if_yes, one_if_no, count_split, count_has, count_every, count_none, count_mono}

-- below suc n is below n, or n
pub below_suc : (x n : ℕ) → one_if (ltb x (suc n)) ≡ one_if (ltb x n) + one_if (eqb x n)
below_suc x n = go (cmp n x)
  where
    go : (n ≤ x) ⊎ (x < n) → one_if (ltb x (suc n)) ≡ one_if (ltb x n) + one_if (eqb x n)
    go (inl h) = at (cmp x n)
      where
        at : (x ≤ n) ⊎ (n < x) → one_if (ltb x (suc n)) ≡ one_if (ltb x n) + one_if (eqb x n)
        at (inl k) =
            omega (arith, one_if_yes (ltb x (suc n)) (lt-ltb x (suc n) (omega arith)), one_if_no (ltb x n) (le-ltb x n h), one_if_yes (eqb x n) (eq-eqb x n (omega arith)))
        at (inr k) =
            omega (arith, one_if_no (ltb x (suc n)) (le-ltb x (suc n) (omega arith)), one_if_no (ltb x n) (le-ltb x n h), one_if_no (eqb x n) (ne_eqb x n (omega arith)))
    go (inr h) =
        omega (arith, one_if_yes (ltb x (suc n)) (lt-ltb x (suc n) (omega arith)), one_if_yes (ltb x n) (lt-ltb x n h), one_if_no (eqb x n) (ne_eqb x n (omega arith)))

module _ {A : Type 0} (f : A → ℕ) (l : List A) where
  -- what the elements share with one of them bounds what shares any value
  pub sharing : (m : ℕ) → ((x : A) → Memᴰ x l → how_many (λ (y : A). eqb (f y) (f x)) l ≤ m) → (k : ℕ) → how_many (λ (y : A). eqb (f y) k) l ≤ m
  sharing m h k = go (test (has (λ (y : A). eqb (f y) k) l))
    where
      go : (has (λ (y : A). eqb (f y) k) l ≡ true) ⊎ (has (λ (y : A). eqb (f y) k) l ≡ false) → how_many (λ (y : A). eqb (f y) k) l ≤ m
      go (inl e) =
          let s = has_mem (λ (y : A). eqb (f y) k) l e in
          let same : f s.0 ≡ k = eqb-true (f s.0) k s.2 in
          omega (arith, h s.0 s.1, count_mono (λ (y : A). eqb (f y) k) (λ (y : A). eqb (f y) (f s.0)) l (λ x i c. eq-eqb (f x) (f s.0) (eqb-true (f x) k c ∙ sym same)))
      go (inr e) = omega (arith, count_has (λ (y : A). eqb (f y) k) l e)

  -- values 0 to n, each but 0 shared by m at the most
  pub spread_below : (m : ℕ) → ((k : ℕ) → how_many (λ (y : A). eqb (f y) k) l ≤ m) → (n : ℕ)
      → how_many (λ (y : A). ltb (f y) (suc n)) l ≤ how_many (λ (y : A). eqb (f y) 0) l + n * m
  spread_below m h zero =
      omega (arith, count_split (λ (y : A). ltb (f y) 0) (λ (y : A). eqb (f y) 0) (λ (y : A). ltb (f y) 1) l (λ x i. below_suc (f x) 0), count_none (λ (y : A). ltb (f y) 0) l (λ x i. le-ltb (f x) 0 (omega arith)))
  spread_below m h (suc n) =
      omega (arith, spread_below m h n, h (suc n), suc-mul n m, count_split (λ (y : A). ltb (f y) (suc n)) (λ (y : A). eqb (f y) (suc n)) (λ (y : A). ltb (f y) (suc (suc n))) l (λ x i. below_suc (f x) (suc n)))

  pub spread : (m n : ℕ) → ((x : A) → Memᴰ x l → how_many (λ (y : A). eqb (f y) (f x)) l ≤ m) → ((x : A) → Memᴰ x l → f x < suc n)
      → length l ≤ how_many (λ (y : A). eqb (f y) 0) l + n * m
  spread m n h b =
      omega (arith, spread_below m (sharing m h) n, count_every (λ (y : A). ltb (f y) (suc n)) l (λ x i. lt-ltb (f x) (suc n) (b x i)))

-- The least number of a list: it is in the list, and none is less.
use mathlib.Core.Path.{◌≡◌, refl}
use mathlib.Core.Logic.{◌⊎◌, inl, inr}
use mathlib.Core.List.Memᴰ
use mathlib.Core.List.{List, [], ◌∷◌, Memᴰ}
use Prim.Native.Nat.{ℕ, ◌≤◌, ◌<◌, min}
use native.Mathlib.Omega.{arith}
use Rattle.lists.specs.Least.{least_from, least}
use Rattle.lists.proofs.Tests.{cmp}

least_from_below : (m : ℕ) (l : List ℕ) → least_from m l ≤ m
unfolding least_from
least_from_below m [] = omega arith
least_from_below m (n ∷ l) = omega (arith, least_from_below (min m n) l)

least_from_mem : (m : ℕ) (l : List ℕ) → Memᴰ (least_from m l) (m ∷ l)
unfolding least_from
least_from_mem m [] = Memᴰ.head refl
least_from_mem m (n ∷ l) = go (cmp m n) (Memᴰ.cases_cons (least_from_mem (min m n) l))
  where
    go : (m ≤ n) ⊎ (n < m) → (least_from (min m n) l ≡ min m n) ⊎ Memᴰ (least_from (min m n) l) l → Memᴰ (least_from (min m n) l) (m ∷ n ∷ l)
    go (inl h) (inl e) = let q : least_from (min m n) l ≡ m = omega arith in Memᴰ.head q
    go (inr h) (inl e) = let q : least_from (min m n) l ≡ n = omega arith in Memᴰ.tail (Memᴰ.head q)
    go c (inr k) = Memᴰ.tail (Memᴰ.tail k)

least_from_least : (m : ℕ) (l : List ℕ) {x : ℕ} → Memᴰ x l → least_from m l ≤ x
unfolding least_from
least_from_least m [] k = elim k [ ]
least_from_least m (n ∷ l) (Memᴰ.head e) = omega (arith, least_from_below (min m n) l)
least_from_least m (n ∷ l) (Memᴰ.tail k) = least_from_least (min m n) l k

pub least_mem : (l : List ℕ) {x : ℕ} → Memᴰ x l → Memᴰ (least l) l
unfolding least
least_mem [] k = absurd (Memᴰ.not-nil k)
least_mem (n ∷ l) k = least_from_mem n l

pub least_least : (l : List ℕ) {x : ℕ} → Memᴰ x l → least l ≤ x
unfolding least
least_least [] k = elim k [ ]
least_least (n ∷ l) (Memᴰ.head e) = omega (arith, least_from_below n l)
least_least (n ∷ l) (Memᴰ.tail k) = least_from_least n l k

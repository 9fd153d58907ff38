-- The tight slot of a part: the first of the last slots present with the least height just past it. Two forms of it, which are equivalent; it is unique.
use mathlib.Core.Path.{◌≡◌, refl}
use mathlib.Core.Logic.{◌⊎◌, inl, inr, ⊎_elim}
use Prim.Native.Nat.{ℕ, zero, suc, ◌+◌, ◌≤◌, ◌<◌}
use native.Mathlib.Omega.{arith}
use Rattle.heights.proofs.Heights.Part.{Part, ◌⊕◌, Same, cmp, not_apart}

-- l is the tight slot of A at n: past l no height is less than at l + 1; up to l, where some job in date is below s, all are more
pub record TightSlot (n : ℕ) (A : Part) (l : ℕ) : Type 0 where
  pub date : n ≤ l
  pub present : A.at (suc l) < A.at l
  pub past : (s : ℕ) → l < s → suc l + A.at (suc l) ≤ s + A.at s
  pub upto : (s : ℕ) → n ≤ s → s ≤ l → A.at s < A.at n → suc l + A.at (suc l) < s + A.at s

-- The same by excess. The excess of a last slot m is m + 1 less n less the jobs in date up to m, which is suc m + A.at (suc m) less n + A.at n:
-- l is present, its excess is smallest, and it is the first such.
pub record SmallestExcess (n : ℕ) (A : Part) (l : ℕ) : Type 0 where
  pub date : n ≤ l
  pub present : A.at (suc l) < A.at l
  pub least : (m : ℕ) → n ≤ m → A.at (suc m) < A.at m → l + A.at (suc l) ≤ m + A.at (suc m)
  pub first : (m : ℕ) → n ≤ m → A.at (suc m) < A.at m → m < l → l + A.at (suc l) < m + A.at (suc m)

-- below x there is no job in date, or a greatest last slot
below : (A : Part) (n x : ℕ) → (A.at n ≤ A.at x) ⊎ ((m : ℕ) × (n ≤ m) × (m < x) × (A.at (suc m) < A.at m) × (A.at (suc m) ≡ A.at x))
below A n zero = inl (A.anti zero n (omega arith))
below A n (suc x) = go (below A n x) (cmp (A.at x) (A.at (suc x))) (cmp n x)
  where
    go : (A.at n ≤ A.at x) ⊎ ((m : ℕ) × (n ≤ m) × (m < x) × (A.at (suc m) < A.at m) × (A.at (suc m) ≡ A.at x))
        → (A.at x ≤ A.at (suc x)) ⊎ (A.at (suc x) < A.at x) → (n ≤ x) ⊎ (x < n)
        → (A.at n ≤ A.at (suc x)) ⊎ ((m : ℕ) × (n ≤ m) × (m < suc x) × (A.at (suc m) < A.at m) × (A.at (suc m) ≡ A.at (suc x)))
    go r c (inr h) = inl (A.anti (suc x) n h)
    go r (inr h) (inl d) = inr (x, d, omega arith, h, refl)
    go (inl e) (inl h) (inl d) = inl (omega arith)
    go (inr r) (inl h) (inl d) = inr (r.0, r.1, omega arith, r.3, omega (arith, A.anti x (suc x) (omega arith)))

pub excess_tight : {n l : ℕ} {A : Part} → SmallestExcess n A l → TightSlot n A l
excess_tight {n} {l} {A} T =
    record {
      date = T.date;
      present = T.present;
      past =
          λ s h.
          ⊎_elim
          (λ e. absurd (omega (arith, A.anti (suc l) s h, A.anti n l T.date, T.present)))
          (λ m. omega (arith, T.least m.0 m.1 m.3))
          (below A n s);
      upto = λ s d h f. ⊎_elim (λ e. absurd (omega arith)) (λ m. omega (arith, T.first m.0 m.1 m.3 (omega arith))) (below A n s);
    }

-- there is only one
pub tight_unique : {n l m : ℕ} {A : Part} → TightSlot n A l → TightSlot n A m → l ≡ m
tight_unique {n} {l} {m} {A} T U = not_apart l m (no T U) (no U T)
  where
    no : {l m : ℕ} → TightSlot n A l → TightSlot n A m → l < m → ⊥
    no {l} {m} T U h =
        let f : A.at (suc l) < A.at n = omega (arith, T.present, A.anti n l T.date) in
        omega (arith, T.past (suc m) (omega arith), U.upto (suc l) (omega (arith, T.date)) h f)

-- some job in date is up to it
pub tight_fall : {n l : ℕ} {A : Part} → TightSlot n A l → A.at (suc l) < A.at n
tight_fall {n} {l} {A} T = omega (arith, T.present, A.anti n l T.date)

-- only the counts from n on matter
pub tight_same : {n l : ℕ} {A C : Part} → Same n C A → TightSlot n A l → TightSlot n C l
tight_same {n} {l} e T =
    let d = T.date in
    let z = e.is (suc l) (omega arith) in
    record {
      date = d;
      present = omega (arith, T.present, e.is l d);
      past = λ s h. omega (arith, T.past s h, e.is s (omega arith));
      upto = λ s h j f. omega (arith, T.upto s h j (omega (arith, e.is s h, e.is n (omega arith))), e.is s h);
    }

pub tight_swap : {n l : ℕ} (A B : Part) → TightSlot n (A ⊕ B) l → TightSlot n (B ⊕ A) l
tight_swap A B T =
    record {
      date = T.date;
      present = omega (arith, T.present);
      past = λ s h. omega (arith, T.past s h);
      upto = λ s h j f. omega (arith, T.upto s h j (omega arith));
    }

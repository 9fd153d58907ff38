-- The job that gets a slot: nobody exactly where none has come; else one that has come, with the least last slot, of several the earliest.
use mathlib.Core.Path.{◌≡◌, refl, sym, ap, ◌∙◌}
use mathlib.Core.Bool.{Bool, true, false, cond, ◌&&◌, ◌||◌}
use mathlib.Core.Logic.{◌⊎◌, inl, inr}
use mathlib.Core.List.{List}
use Prim.Native.Nat.{ℕ, zero, suc, ◌≤◌, ◌<◌}
use native.Mathlib.Omega.{arith}
use lib.Dec.{ltb, eqb}
use borrow.Author.Tests.{ltb-true, ltb-false, eqb-true, eq-eqb}
use Rattle.lists.proofs.Tests.{test, never, and_left, and_right, and_false, or_cases, or_false, cond_true, cond_false}
use Rattle.matching.specs.declared.Window.{Window}
use Rattle.matching.specs.Windows.{most_jobs, last_of}
use Rattle.matching.specs.Layout.{no_job, has_come, sooner, next_to}
use Rattle.matching.specs.Hindsight.{NoneNext, IsNext}
use Rattle.matching.proofs.Below.Counting.{last_or}

module _ (ws : List Window) (waiting : List Bool) (slot : ℕ) where
  abbrev beats : (n q : ℕ) → Bool
  beats n q = eqb q no_job || ltb (last_of ws n) (last_of ws q)

  abbrev Found : (n q : ℕ) → Type 0
  Found n q = NoneNext ws waiting slot n q ⊎ IsNext ws waiting slot n q

  -- the job n is taken: its last slot is less than any before
  taken : (n q : ℕ) → n < most_jobs → Found n q → (has_come ws waiting slot n && beats n q) ≡ true → IsNext ws waiting slot (suc n) n
  taken n q h s e =
      record {
        below = omega arith;
        come = and_left (has_come ws waiting slot n) (beats n q) e;
        least = λ i k c. go i c (last_or i n (omega arith));
        earliest = λ i k c z. at i c z (last_or i n (omega arith));
      }
    where
      less : (i : ℕ) → i < n → has_come ws waiting slot i ≡ true → (t : Found n q) → (eqb q no_job ≡ true) ⊎ (ltb (last_of ws n) (last_of ws q) ≡ true) → last_of ws n < last_of ws i
      less i k c (inl t) z = never c (t.none i k)
      less i k c (inr t) (inl z) = absurd (omega (arith, eqb-true q no_job z, t.below))
      less i k c (inr t) (inr z) = omega (arith, ltb-true (last_of ws n) (last_of ws q) z, t.least i k c)

      before : (i : ℕ) → i < n → has_come ws waiting slot i ≡ true → last_of ws n < last_of ws i
      before i k c = less i k c s (or_cases (eqb q no_job) (ltb (last_of ws n) (last_of ws q)) (and_right (has_come ws waiting slot n) (beats n q) e))

      go : (i : ℕ) → has_come ws waiting slot i ≡ true → (i ≡ n) ⊎ (i < n) → last_of ws n ≤ last_of ws i
      go i c (inl k) = omega (arith, ap (last_of ws) k)
      go i c (inr k) = omega (arith, before i k c)

      at : (i : ℕ) → has_come ws waiting slot i ≡ true → last_of ws i ≡ last_of ws n → (i ≡ n) ⊎ (i < n) → n ≤ i
      at i c z (inl k) = omega arith
      at i c z (inr k) = absurd (omega (arith, before i k c))

  kept : (n q : ℕ) → n < most_jobs → Found n q → (has_come ws waiting slot n && beats n q) ≡ false → Found (suc n) q
  kept n q h s e = go s (and_false (has_come ws waiting slot n) (beats n q) e)
    where
      go : Found n q → (has_come ws waiting slot n ≡ false) ⊎ (beats n q ≡ false) → Found (suc n) q
      go (inl t) (inl x) = inl (record { is_none = t.is_none; none = λ i k. at i (last_or i n (omega arith)) })
        where
          at : (i : ℕ) → (i ≡ n) ⊎ (i < n) → has_come ws waiting slot i ≡ false
          at i (inl k) = ap (has_come ws waiting slot) k ∙ x
          at i (inr k) = t.none i k
      go (inl t) (inr y) = never (eq-eqb q no_job t.is_none) (or_false (eqb q no_job) (ltb (last_of ws n) (last_of ws q)) y).0
      go (inr t) z =
          inr (record {
            below = omega (arith, t.below);
            come = t.come;
            least = λ i k c. at i c (last_or i n (omega arith)) z;
            earliest = λ i k c y. later i c y (last_or i n (omega arith));
          })
        where
          later : (i : ℕ) → has_come ws waiting slot i ≡ true → last_of ws i ≡ last_of ws q → (i ≡ n) ⊎ (i < n) → q ≤ i
          later i c y (inl k) = omega (arith, t.below)
          later i c y (inr k) = t.earliest i k c y

          at : (i : ℕ) → has_come ws waiting slot i ≡ true → (i ≡ n) ⊎ (i < n) → (has_come ws waiting slot n ≡ false) ⊎ (beats n q ≡ false) → last_of ws q ≤ last_of ws i
          at i c (inr k) v = t.least i k c
          at i c (inl k) (inl x) = never (sym (ap (has_come ws waiting slot) k) ∙ c) x
          at i c (inl k) (inr y) =
              omega (arith, ap (last_of ws) k, ltb-false (last_of ws n) (last_of ws q) (or_false (eqb q no_job) (ltb (last_of ws n) (last_of ws q)) y).1)

  next_more : (n q : ℕ) → n < most_jobs → Found n q → Found (suc n) (sooner ws waiting slot n q)
  unfolding sooner
  next_more n q h s = go (test (has_come ws waiting slot n && beats n q))
    where
      go : ((has_come ws waiting slot n && beats n q) ≡ true) ⊎ ((has_come ws waiting slot n && beats n q) ≡ false)
          → Found (suc n) (cond (has_come ws waiting slot n && beats n q) n q)
      go (inl e) = inr (rw (cond_true (has_come ws waiting slot n && beats n q) n q e) (taken n q h s e))
      go (inr e) = rw (cond_false (has_come ws waiting slot n && beats n q) n q e) (kept n q h s e)

  pub next_found : (n : ℕ) → n ≤ most_jobs → NoneNext ws waiting slot n (next_to ws waiting slot n) ⊎ IsNext ws waiting slot n (next_to ws waiting slot n)
  unfolding next_to
  next_found zero h = inl (record { is_none = refl; none = λ i k. absurd (omega arith) })
  next_found (suc n) h = next_more n (next_to ws waiting slot n) (omega arith) (next_found n (omega arith))

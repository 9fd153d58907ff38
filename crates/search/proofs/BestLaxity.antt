-- The best laxity from counts: c k jobs have the laxity k + 1, laxity by laxity from the least.
use mathlib.Core.Path.{◌≡◌, refl, sym, ap, ◌∙◌, subst}
use mathlib.Core.Bool.{Bool, true, false, cond}
use mathlib.Core.Logic.{◌⊎◌, inl, inr, ⊎_elim}
use Prim.Native.Nat.{ℕ, zero, suc, ◌+◌, ◌≤◌, ◌<◌}
use native.Mathlib.Omega.{arith}
use lib.Dec.{ltb, eqb}
use lib.IntN.{ℤ, pos, ◌-ℤ◌}
use borrow.Author.Tests.{ltb-true, ltb-false, eqb-true, eqb-false, eq-eqb, ne_eqb}
use Rattle.lists.proofs.Tests.{cmp}
use Rattle.smallest.specs.declared.Best.{Best}
use Rattle.search.specs.Inner.Counts.{sum}
use Rattle.search.specs.Inner.Answers.{best_with, best_laxity}
use Rattle.std.specs.Prelude.{Option, Some, None}
use Rattle.board.specs.Promise.{laxity_number}
use Rattle.smallest.specs.Inner.Excess.{improves}
use Rattle.smallest.proofs.Signed.{difference_less}
use Rattle.search.proofs.Sums.{sum_more, sum_part}

-- the laxity k + 1 and its excess, with w jobs within it
abbrev pub best_at : (k w : ℕ) → Best
best_at k w = record { excess = pos (k + 1) -ℤ pos w; laxity = laxity_number (k + 1) }

-- the code's step: nobody has the laxity, or its excess is better, or not
module _ (best : Option Best) (before here k : ℕ) where
  pub with_none : here ≡ 0 → best ≡ best_with best before here k
  unfolding best_with
  with_none z = rw (eq-eqb here 0 z) refl

  module _ (some : ¬ (here ≡ 0)) {x : ℤ} (e : x ≡ pos (k + 1) -ℤ pos (before + here)) where
    pub with_new : improves x best ≡ true → Some (record { excess = x; laxity = laxity_number (k + 1) }) ≡ best_with best before here k
    unfolding best_with
    with_new t = rw (ne_eqb here 0 some, ← e, t) refl

    pub with_old : improves x best ≡ false → best ≡ best_with best before here k
    unfolding best_with
    with_old t = rw (ne_eqb here 0 some, ← e, t) refl

-- it is the laxity k + 1, or what it was
pub with_either : (best : Option Best) (before here k : ℕ) → (best_with best before here k ≡ best) ⊎ (best_laxity (best_with best before here k) ≡ k + 1)
unfolding best_with
with_either best before here k = go (eqb here 0) (improves (pos (k + 1) -ℤ pos (before + here)) best)
  where
    go : (s t : Bool) → (cond s best (cond t (Some (best_at k (before + here))) best) ≡ best) ⊎ (best_laxity (cond s best (cond t (Some (best_at k (before + here))) best)) ≡ k + 1)
    go true t = inl refl
    go false true = inr refl
    go false false = inl refl

module _ (c : ℕ → ℕ) where
  -- the excess of k + 1 is at most that of j + 1; is smaller
  abbrev AtMost : (k j : ℕ) → Type 0
  AtMost k j = k + sum c (j + 1) ≤ j + sum c (k + 1)

  abbrev Below : (k j : ℕ) → Type 0
  Below k j = k + sum c (j + 1) < j + sum c (k + 1)

  -- the best of the laxities 1 to n
  pub data BestTo (n : ℕ) (best : Option Best) : Type 0 where
    none_yet : sum c n ≡ 0 → best ≡ None → BestTo n best
    best_yet : (k : ℕ) → k < n → 1 ≤ c k → best ≡ Some (best_at k (sum c (k + 1))) → ((j : ℕ) → j < n → 1 ≤ c j → AtMost k j) → ((j : ℕ) → j < k → 1 ≤ c j → Below k j) → BestTo n best

  -- one laxity more: nobody has it
  best_same : (n : ℕ) {best : Option Best} → c n ≡ 0 → BestTo n best → BestTo (n + 1) best
  best_same n e (none_yet s b) = none_yet (omega (arith, sum_more c n)) b
  best_same n e (best_yet k h p b o f) =
      best_yet k (omega arith) p b
      (λ j i q. ⊎_elim (λ (m : n ≤ j). let s : j ≡ n = omega arith in absurd (omega (arith, ap c s))) (λ m. o j m q) (cmp n j))
      f

  -- it is the new best
  best_new : (n : ℕ) → 1 ≤ c n → ((j : ℕ) → j < n → 1 ≤ c j → Below n j) → BestTo (n + 1) (Some (best_at n (sum c n + c n)))
  best_new n p f =
      best_yet n (omega arith) p (ap (λ w. Some (best_at n w)) (sym (sum_more c n)))
      (λ j i q. ⊎_elim (λ (m : n ≤ j). let s : j ≡ n = omega arith in rw s (omega arith)) (λ m. omega (arith, f j m q)) (cmp n j))
      f

  -- the two excesses compared, as sums
  compared : (n k : ℕ) {best : Option Best} → best ≡ Some (best_at k (sum c (k + 1)))
      → improves (pos (n + 1) -ℤ pos (sum c n + c n)) best ≡ ltb (n + 1 + sum c (k + 1)) (k + 1 + (sum c n + c n))
  compared n k e =
      ap (improves (pos (n + 1) -ℤ pos (sum c n + c n))) e ∙ difference_less (n + 1) (sum c n + c n) (k + 1) (sum c (k + 1))

  -- somebody has it: its excess is smaller, or the best so far stays
  best_either : (n k : ℕ) {best : Option Best} → 1 ≤ c n → k < n → 1 ≤ c k → best ≡ Some (best_at k (sum c (k + 1))) → ((j : ℕ) → j < n → 1 ≤ c j → AtMost k j)
      → ((j : ℕ) → j < k → 1 ≤ c j → Below k j) → (t : Bool) → ltb (n + 1 + sum c (k + 1)) (k + 1 + (sum c n + c n)) ≡ t
      → BestTo (n + 1) (cond t (Some (best_at n (sum c n + c n))) best)
  best_either n k p h r b o f true e =
      best_new n p (λ j i q. omega (arith, sum_more c n, o j i q, ltb-true (n + 1 + sum c (k + 1)) (k + 1 + (sum c n + c n)) e))
  best_either n k p h r b o f false e =
      best_yet k (omega arith) r b
      (λ j i q.
      ⊎_elim
      (λ (m : n ≤ j). let s : j ≡ n = omega arith in rw s (omega (arith, sum_more c n, ltb-false (n + 1 + sum c (k + 1)) (k + 1 + (sum c n + c n)) e)))
      (λ m. o j m q)
      (cmp n j))
      f

  best_some : (n : ℕ) {best : Option Best} → 1 ≤ c n → BestTo n best
      → BestTo (n + 1) (cond (improves (pos (n + 1) -ℤ pos (sum c n + c n)) best) (Some (best_at n (sum c n + c n))) best)
  best_some n p (none_yet s b) = rw b (best_new n p (λ j i q. absurd (omega (arith, sum_part c n j i))))
  best_some n p (best_yet k h r b o f) = rw (compared n k b) (best_either n k p h r b o f (ltb (n + 1 + sum c (k + 1)) (k + 1 + (sum c n + c n))) refl)

  pub best_more : (n : ℕ) {best : Option Best} → BestTo n best → BestTo (n + 1) (best_with best (sum c n) (c n) n)
  unfolding best_with
  best_more n {best} B = go (eqb (c n) 0) refl
    where
      go : (t : Bool) → eqb (c n) 0 ≡ t
          → BestTo (n + 1) (cond t best (cond (improves (pos (n + 1) -ℤ pos (sum c n + c n)) best) (Some (best_at n (sum c n + c n))) best))
      go true e = best_same n (eqb-true (c n) 0 e) B
      go false e = let z : ¬ (c n ≡ 0) = eqb-false (c n) 0 e in best_some n (omega arith) B

  pub best_none : BestTo 0 None
  unfolding sum
  best_none = none_yet refl refl

  pub best_small : {n : ℕ} {best : Option Best} → BestTo n best → best_laxity best ≤ n
  best_small (none_yet s b) = rw b (omega arith)
  best_small (best_yet k h p b o f) = rw b (omega arith)

  -- the best of all laxities is the best so far, or a greater one
  pub best_on : (m n N : ℕ) {best : Option Best} → BestTo n best → N ≡ n + m → (last : Option Best) × BestTo N last × (best_laxity best ≤ best_laxity last)
  best_on zero n N {best} B e = (best, subst (λ k. BestTo k best) (omega arith) B, omega arith)
  best_on (suc m) n N {best} B e =
      let (last, L, h) = best_on m (n + 1) N (best_more n B) (omega arith) in
      (last, L, ⊎_elim (λ (w : best_with best (sum c n) (c n) n ≡ best). omega (arith, h, ap best_laxity w)) (λ w. omega (arith, h, w, best_small B)) (with_either best (sum c n) (c n) n))

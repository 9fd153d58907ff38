-- Whether the next bit is 0, laxity by laxity from the least: known as soon as a laxity is the best and a job within it has that bit.
use mathlib.Core.Path.{◌≡◌, refl, sym, ap, ◌∙◌, subst}
use mathlib.Core.Bool.{true, false, ◌&&◌}
use mathlib.Core.Logic.{⊎_elim}
use mathlib.Core.List.{List}
use Prim.Native.Nat.{ℕ, ◌+◌, ◌-◌, ◌*◌, ◌≤◌, ◌<◌}
use native.Mathlib.Omega.{arith}
use lib.Dec.{ltb, eqb}
use Rattle.std.specs.Prelude.{Option, None}
use borrow.Author.Tests.{ltb-true, ltb-false, lt-ltb, le-ltb, eqb-true, eqb-false}
use Rattle.lists.proofs.Tests.{and_left, and_right, and_false}
use Rattle.board.specs.Limits.{longest_laxity}
use Rattle.smallest.specs.declared.Best.{Best}
use Rattle.search.specs.Inner.Counts.{sum, column}
use Rattle.search.specs.Inner.Answers.{ZeroNext, best_with, best_laxity}
use Rattle.search.proofs.Sums.{sum_more, sum_mono}
use Rattle.search.proofs.BestLaxity.{BestTo, with_either, best_none, best_more, best_small, best_on}
use Rattle.search.proofs.FromCounts.{tight_of, zero_of}

module _ (t : List ℕ) (start left : ℕ) where
  -- the jobs of the laxity k + 1 that start so, and those of them with 0 for their next bit
  abbrev here : ℕ → ℕ
  here = column t start left

  abbrev zero : ℕ → ℕ
  zero = column t (start * 2) (left - 1)

  -- after n laxities: the best of them, with no job within it that has 0 for its next bit
  pub record ZeroTo (n : ℕ) (best : Option Best) (within zeros : ℕ) : Type 0 where
    pub tightest : BestTo here n best
    pub none : sum zero (best_laxity best) ≡ 0
    pub within_all : within ≡ sum here n
    pub zeros_all : zeros ≡ sum zero n

  pub zero_none : ZeroTo 0 None 0 0
  unfolding sum
  zero_none = record { tightest = best_none here; none = refl; within_all = refl; zeros_all = refl }

  -- one laxity more
  module _ {n : ℕ} {best : Option Best} {within zeros : ℕ} (Z : ZeroTo n best within zeros) where
    pub zero_more : (z h : ℕ) → z ≡ zero n → h ≡ here n → (eqb (best_laxity (best_with best within h n)) (n + 1) && ltb 0 (zeros + z)) ≡ false
        → ZeroTo (n + 1) (best_with best within h n) (within + h) (zeros + z)
    zero_more z h e f fails =
        let B : BestTo here (n + 1) (best_with best within h n) = rw (f, Z.within_all) (best_more here n Z.tightest) in
        let s : zeros + z ≡ sum zero (n + 1) = omega (arith, e, Z.zeros_all, sum_more zero n) in
        record {
          tightest = B;
          none =
              ⊎_elim
              (λ (a : eqb (best_laxity (best_with best within h n)) (n + 1) ≡ false).
              ⊎_elim
              (λ (same : best_with best within h n ≡ best). ap (λ x. sum zero (best_laxity x)) same ∙ Z.none)
              (λ new. absurd (eqb-false _ (n + 1) a new))
              (with_either best within h n))
              (λ (a : ltb 0 (zeros + z) ≡ false).
              omega (arith, s, ltb-false 0 (zeros + z) a, sum_mono zero (best_laxity (best_with best within h n)) (n + 1) (best_small here B)))
              (and_false (eqb (best_laxity (best_with best within h n)) (n + 1)) (ltb 0 (zeros + z)) fails);
          within_all = omega (arith, f, Z.within_all, sum_more here n);
          zeros_all = s;
        }

  module _ (some : 1 ≤ left) where
    -- the tight laxity is this one or a greater one
    pub zero_found : {n : ℕ} {best : Option Best} {within zeros : ℕ} → n < longest_laxity → ZeroTo n best within zeros → (z h : ℕ) → z ≡ zero n → h ≡ here n
        → (eqb (best_laxity (best_with best within h n)) (n + 1) && ltb 0 (zeros + z)) ≡ true → ZeroNext t start left true
    zero_found {n} {best} {within} {zeros} l Z z h e f holds =
        let B : BestTo here (n + 1) (best_with best within h n) = rw (f, Z.within_all) (best_more here n Z.tightest) in
        let x = best_with best within h n in
        let (last, L, g) = best_on here (longest_laxity - (n + 1)) (n + 1) longest_laxity B (omega arith) in
        let at : best_laxity x ≡ n + 1 = eqb-true _ (n + 1) (and_left (eqb (best_laxity x) (n + 1)) (ltb 0 (zeros + z)) holds) in
        let any : 0 < zeros + z = ltb-true 0 (zeros + z) (and_right (eqb (best_laxity x) (n + 1)) (ltb 0 (zeros + z)) holds) in
        zero_of t start left some last (tight_of t start left last L) (best_small here L) true
        (sym (lt-ltb 0 (sum zero (best_laxity last))
        (omega (arith, any, e, Z.zeros_all, sum_more zero n, sum_mono zero (n + 1) (best_laxity last) (omega (arith, g, at))))))

    -- all laxities are passed
    pub zero_ended : {n : ℕ} {best : Option Best} {within zeros : ℕ} → n ≡ longest_laxity → ZeroTo n best within zeros → ZeroNext t start left false
    zero_ended {n} {best} e Z =
        let L = subst (λ k. BestTo here k best) e Z.tightest in
        zero_of t start left some best (tight_of t start left best L) (best_small here L) false (sym (le-ltb 0 (sum zero (best_laxity best)) (omega (arith, Z.none))))

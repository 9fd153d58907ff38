-- From counts to jobs: the answers of the search, each for all jobs that have these counts.
use mathlib.Core.Path.{◌≡◌, sym, ap, ap₂, ◌∙◌}
use mathlib.Core.Bool.{Bool, true, false}
use mathlib.Core.List.{List, [], ◌∷◌, ◌++◌}
use Prim.Native.Nat.{ℕ, ◌+◌, ◌-◌, ◌*◌, ◌^◌, ◌≤◌, ◌<◌}
use native.Mathlib.Omega.{arith}
use lib.Dec.{leb, ltb}
use borrow.Author.Tests.{not-true, not-false}
use Rattle.lists.specs.Select.{how_many}
use Rattle.rule.specs.Job.{Job, laxity}
use Rattle.rule.specs.Grade.{bits, starting}
use Rattle.rule.specs.Descent.{next_bit, descend}
use Rattle.rule.proofs.NoRegret.Within.{starting_mem}
use Rattle.rule.proofs.Tight.Excess.{up_to}
use Rattle.board.specs.Limits.{longest_laxity}
use Rattle.std.specs.Prelude.{Option}
use Rattle.smallest.specs.declared.Best.{Best}
use Rattle.search.specs.Inner.Counts.{CountsOf, sum, column}
use Rattle.search.specs.Inner.Start.{Start, first_bits}
use Rattle.search.specs.Inner.Answers.{TightOf, best_laxity, LeastOf, ZeroNext, NextStart, DescentOf}
use Rattle.search.proofs.Sums.{column_counts}
use Rattle.search.proofs.BestLaxity.{BestTo}
use Rattle.search.proofs.TightFound.{within, laxity_of_best, tight_found, least_found, least_none}
use Rattle.search.proofs.Start.{next_zero, next_one, zero_fits}
use Rattle.search.proofs.NextBit.{zero_next, one_fewer, none_left}

module _ (t : List ℕ) (start left : ℕ) where
  pub tight_of : (best : Option Best) → BestTo (column t start left) longest_laxity best → TightOf t start left best
  tight_of best B now d A fits C =
      let u = first_bits d start left in
      tight_found now (starting d u A) (λ r m. C.in_date r (starting_mem d u A m).0) (λ r m. C.short r (starting_mem d u A m).0) (column t start left)
      (column_counts now d A t C start left fits) B

  -- the first columns count the jobs within a laxity
  pub within_of : (now d : ℕ) (A : List Job) → Start d start left → CountsOf now d A t → (l : ℕ) → l ≤ longest_laxity
      → sum (column t start left) l ≡ up_to now (starting d (first_bits d start left) A) l
  within_of now d A fits C l h =
      let u = first_bits d start left in
      within now (starting d u A) (λ r m. C.in_date r (starting_mem d u A m).0) (λ r m. C.short r (starting_mem d u A m).0) (column t start left)
      (column_counts now d A t C start left fits) l h

-- the first column of a grade that is not 0 is that of the least laxity
module _ (t : List ℕ) (grade : ℕ) where
  pub least_of : (k : ℕ) → k < longest_laxity → 1 ≤ column t grade 0 k → sum (column t grade 0) k ≡ 0 → LeastOf t grade (k + 1)
  least_of k h p z now d A fits C =
      let u = first_bits d grade 0 in
      least_found now (starting d u A) (λ r m. C.in_date r (starting_mem d u A m).0) (λ r m. C.short r (starting_mem d u A m).0) (column t grade 0)
      (column_counts now d A t C grade 0 fits) k h p z

  pub none_of : sum (column t grade 0) longest_laxity ≡ 0 → LeastOf t grade 0
  none_of z now d A fits C =
      let u = first_bits d grade 0 in
      least_none now (starting d u A) (λ r m. C.in_date r (starting_mem d u A m).0) (λ r m. C.short r (starting_mem d u A m).0) (column t grade 0)
      (column_counts now d A t C grade 0 fits) z

module _ (t : List ℕ) (start left : ℕ) (some : 1 ≤ left) where
  pub zero_of : (best : Option Best) → TightOf t start left best → best_laxity best ≤ longest_laxity → (r : Bool)
      → r ≡ ltb 0 (sum (column t (start * 2) (left - 1)) (best_laxity best)) → ZeroNext t start left r
  zero_of best T h r e now d A fits C =
      let u = first_bits d start left in
      let w = within_of t (start * 2) (left - 1) now d A (zero_fits d left start fits some) C (best_laxity best) h in
      e
      ∙ ap (ltb 0) w
      ∙ ap₂ (λ v l. ltb 0 (how_many (λ q. leb (laxity now q) l) (starting d v A))) (next_zero d left start fits some) (ap best_laxity (T now d A fits C) ∙ laxity_of_best now (starting d u A))
      ∙ zero_next now d A u

  pub next_is_zero : (r : Bool) → ZeroNext t start left r → r ≡ true → NextStart t start left (start * 2)
  next_is_zero r Z e now d A fits C =
      let u = first_bits d start left in
      next_zero d left start fits some ∙ ap (λ n. u ++ (n ∷ [])) (sym (not-true (next_bit now d A u) (sym (Z now d A fits C) ∙ e)))

  pub next_is_one : (r : Bool) → ZeroNext t start left r → r ≡ false → NextStart t start left (start * 2 + 1)
  next_is_one r Z e now d A fits C =
      let u = first_bits d start left in
      next_one d left start fits some ∙ ap (λ n. u ++ (n ∷ [])) (sym (not-false (next_bit now d A u) (sym (Z now d A fits C) ∙ e)))

  pub descent_on : (n r : ℕ) → (n + 1) * 2 ^ (left - 1) ≤ (start + 1) * 2 ^ left → NextStart t start left n → DescentOf t n (left - 1) r → DescentOf t start left r
  descent_on n r k N D now d A fits C =
      let u = first_bits d start left in
      D now d A (omega arith) C ∙ ap (descend now d A (left - 1)) (N now d A fits C) ∙ sym (one_fewer now d A left u some)

pub descent_ends : (t : List ℕ) (start left : ℕ) → left ≡ 0 → DescentOf t start left start
descent_ends t start left z now d A fits C =
    let e : d - left ≡ d = omega arith in
    ap (λ n. bits n start) (sym e) ∙ sym (none_left now d A left (first_bits d start left) z)

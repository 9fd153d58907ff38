-- What can be promised, for all jobs that have these counts: the laxity after the last full one.
use mathlib.Core.Path.{◌≡◌, sym, ap, ◌∙◌, subst}
use mathlib.Core.List.{List}
use Prim.Native.Nat.{ℕ, ◌+◌, ◌≤◌, ◌<◌}
use native.Mathlib.Omega.{arith}
use Rattle.rule.specs.Job.{Job}
use Rattle.rule.proofs.Tight.Excess.{up_to}
use Rattle.rule.proofs.Tight.Promise.{LastFull, last_full_none, last_full_here, last_full_before, overfull_promise, full_promise, after_full_promise}
use Rattle.board.specs.Limits.{longest_laxity, deepest}
use Rattle.search.specs.Inner.Counts.{CountsOf, sum, column}
use Rattle.search.specs.Inner.Answers.{PromiseFor}
use Rattle.search.proofs.Sums.{sum_more}
use Rattle.search.proofs.FromCounts.{within_of}
use Rattle.search.proofs.SmallestFound.{starting_all}

-- how many jobs are within a laxity, by the counts of all grades
abbrev pub within_all : List ℕ → ℕ → ℕ
within_all t l = sum (column t 0 deepest) l

module _ (t : List ℕ) where
  -- m is the last full laxity of the first n, for all jobs whose counts are t
  abbrev pub FullFor : (n m : ℕ) → Type 0
  FullFor n m = (now : ℕ) (A : List Job) → CountsOf now deepest A t → LastFull now A n m

  counts_all : (now : ℕ) (A : List Job) → CountsOf now deepest A t → (l : ℕ) → l ≤ longest_laxity → within_all t l ≡ up_to now A l
  counts_all now A C l h = within_of t 0 deepest now deepest A (omega arith) C l h ∙ ap (λ B. up_to now B l) (starting_all deepest A)

  -- one laxity more
  pub within_more : {w : ℕ} (n l : ℕ) → w ≡ within_all t n → l ≡ column t 0 deepest n → w + l ≡ within_all t (n + 1)
  within_more {w} n l h e = omega (arith, h, e, sum_more (column t 0 deepest) n)

  pub full_none : FullFor 0 0
  unfolding sum
  full_none now A C = last_full_none (sym (counts_all now A C 0 (omega arith)))

  -- the next laxity, which w jobs are within
  module _ {n m w : ℕ} (h : n < longest_laxity) (F : FullFor n m) (e : w ≡ within_all t (n + 1)) where
    pub full_here : w ≡ n + 1 → FullFor (n + 1) (n + 1)
    full_here k now A C = last_full_here (F now A C) (omega (arith, e, k, counts_all now A C (n + 1) (omega arith)))

    pub full_before : w < n + 1 → FullFor (n + 1) m
    full_before k now A C = last_full_before (F now A C) (omega (arith, e, counts_all now A C (n + 1) (omega arith)))

  pub overfull_found : (l : ℕ) → l ≤ longest_laxity → l < within_all t l → PromiseFor t 0
  overfull_found l h k now A C = sym (overfull_promise longest_laxity now A l (omega (arith, counts_all now A C l h)))

  -- all laxities are passed
  module _ {n m : ℕ} (F : FullFor n m) (e : n ≡ longest_laxity) where
    pub sold_out_found : m ≡ longest_laxity → PromiseFor t 0
    sold_out_found k now A C = sym (full_promise longest_laxity now A (subst (LastFull now A longest_laxity) k (subst (λ l. LastFull now A l m) e (F now A C))))

    pub promise_found : m < longest_laxity → PromiseFor t (m + 1)
    promise_found k now A C =
        omega (arith, after_full_promise longest_laxity now A C.short (subst (λ l. LastFull now A l m) e (F now A C)) k)

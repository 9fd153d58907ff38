-- The jobs that have some counts, and sums of these counts.
use mathlib.Core.List.{List, Memᴰ}
use Rattle.std.specs.Prelude.{ℕ, zero, suc, ◌+◌, ◌*◌, ◌^◌, ◌≤◌, ◌<◌, get_or}
use Rattle.rule.specs.Job.{Job, laxity}
use Rattle.board.specs.Limits.{longest_laxity, deepest}
use Rattle.board.specs.Tally.{cell}
use Rattle.counts.specs.Counts.{Counted}

-- In slot `now` and at depth d the counts of the jobs A are t, and every one of them has a cell. The jobs stand in any order.
pub record CountsOf (now d : ℕ) (A : List Job) (t : List ℕ) : Type 0 where
  pub counted : Counted now A t
  pub shallow : d ≤ deepest
  pub in_date : (r : Job) → Memᴰ r A → 1 ≤ laxity now r
  pub short : (r : Job) → Memᴰ r A → laxity now r ≤ longest_laxity
  pub graded : (r : Job) → Memᴰ r A → r.grade < 2 ^ d

-- f 0 + .. + f (n - 1)
unfoldable pub sum : (ℕ → ℕ) → ℕ → ℕ
sum f zero = 0
sum f (suc n) = sum f n + f n

-- the count for the laxity k + 1: of the jobs that have it and whose grade starts so (Start)
unfoldable pub column : List ℕ → (start left k : ℕ) → ℕ
column t start left k = sum (λ i. get_or t (cell k (start * 2 ^ left) + i) 0) (2 ^ left)

-- What the search answers from counts alone: 01's answer for all jobs, in any order, that have these counts, in any slot and at any depth of a board.
use Rattle.std.specs.Prelude.{◌≡◌, Bool, not, cond, Option, Some, None, List, [], ◌∷◌, ◌++◌, ℕ, ◌+◌, ◌-◌, ◌*◌, ◌^◌, ◌≤◌, eqb, pos, ◌-ℤ◌}
use Rattle.lists.specs.Least.{least}
use Rattle.rule.specs.Job.{Job}
use Rattle.rule.specs.Grade.{bits, starting}
use Rattle.rule.specs.Tight.{laxities, tight_laxity, excess}
use Rattle.rule.specs.Promise.{least_promised}
use Rattle.rule.specs.Descent.{next_bit, descend}
use Rattle.board.specs.Limits.{longest_laxity, deepest}
use Rattle.board.specs.declared.Laxity.{Laxity}
use Rattle.board.specs.Promise.{laxity_number}
use Rattle.smallest.specs.declared.Best.{Best}
use Rattle.smallest.specs.Inner.Excess.{improves}
use Rattle.search.specs.Inner.Counts.{CountsOf}
use Rattle.search.specs.Inner.Start.{Start, first_bits}

-- for all jobs A whose counts are t, at a depth d that has the start; u is the start's bits
abbrev pub ForJobs : (t : List ℕ) (start left : ℕ) → ((now d : ℕ) → List Job → List Bool → Type 0) → Type 0
ForJobs t start left P = (now d : ℕ) (A : List Job) → Start d start left → CountsOf now d A t → P now d A (first_bits d start left)

-- the tight laxity of some jobs, and its excess; of no jobs there is none
unfoldable pub best_of : (now : ℕ) → List Job → Option Best
best_of now [] = None
best_of now (r ∷ A) = Some (record { excess = excess now (r ∷ A) (tight_laxity now (r ∷ A)); laxity = laxity_number (tight_laxity now (r ∷ A)) })

-- 02: 'For racks in any order it must give 01's l*': the tight laxity of the jobs whose grade starts so, and its excess
abbrev pub TightOf : (t : List ℕ) (start left : ℕ) → Option Best → Type 0
TightOf t start left r = ForJobs t start left (λ now d A u. r ≡ best_of now (starting d u A))

-- whether the next bit is 0
abbrev pub ZeroNext : (t : List ℕ) (start left : ℕ) → Bool → Type 0
ZeroNext t start left r = ForJobs t start left (λ now d A u. r ≡ not (next_bit now d A u))

-- the start with its next bit
abbrev pub NextStart : (t : List ℕ) (start left : ℕ) → ℕ → Type 0
NextStart t start left r = ForJobs t start left (λ now d A u. first_bits d r (left - 1) ≡ u ++ (next_bit now d A u ∷ []))

-- the grade that the search from the start ends at
abbrev pub DescentOf : (t : List ℕ) (start left : ℕ) → ℕ → Type 0
DescentOf t start left r = ForJobs t start left (λ now d A u. bits d r ≡ descend now d A left u)

-- that grade, which starts so
abbrev pub EndsAt : (t : List ℕ) (start left : ℕ) → ℕ → Type 0
EndsAt t start left r = DescentOf t start left r × (r + 1 ≤ (start + 1) * 2 ^ left)

-- the least laxity of the jobs of a grade; 0 where there is none
abbrev pub LeastOf : (t : List ℕ) (grade : ℕ) → ℕ → Type 0
LeastOf t grade w = ForJobs t grade 0 (λ now d A u. w ≡ least (laxities now (starting d u A)))

-- what can still be promised is w, for all jobs A whose counts are t
abbrev pub PromiseFor : (t : List ℕ) (w : ℕ) → Type 0
PromiseFor t w = (now : ℕ) (A : List Job) → CountsOf now deepest A t → w ≡ least_promised longest_laxity now A

-- a laxity as a number; 0 where there is none
abbrev pub laxity_in : Option Laxity → ℕ
laxity_in None = 0
laxity_in (Some l) = l.0

-- the laxity of the best; 0 where there are no jobs
abbrev pub best_laxity : Option Best → ℕ
best_laxity None = 0
best_laxity (Some b) = b.laxity.0

-- the best of the laxities up to k, which `before` jobs have, and of k + 1, which `here` jobs have: 'the least wait whose excess is smallest'
unfoldable pub best_with : Option Best → (before here k : ℕ) → Option Best
best_with best before here k =
    cond (eqb here 0) best
    (cond (improves (pos (k + 1) -ℤ pos (before + here)) best) (Some (record { excess = pos (k + 1) -ℤ pos (before + here); laxity = laxity_number (k + 1) })) best)

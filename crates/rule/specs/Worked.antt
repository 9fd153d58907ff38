-- 01's boards 1 to 8, 'worked by hand' there, and some more for 02, as one table that the definitions are computed against.
use Rattle.std.specs.Prelude.{◌≡◌, List, [], ◌∷◌, map, ℕ, zero, suc, ℤ, pos, length}
use Rattle.lists.specs.Select.{select}
use Rattle.rule.specs.Job.{Job, job}
use Rattle.rule.specs.Tight.{excess, tight_laxity, tight}
use Rattle.rule.specs.Promise.{least_promised}
use Rattle.rule.specs.Bake.{baked, expires, stays, ticket_of}

-- a closing: the ticket baked (0 for 'empty') and the tickets given up
pub record Closing : Type 0 where
  pub ticket : ℕ
  pub given_up : List ℕ

infix 90 ◌gives_up◌
unfoldable pub ◌gives_up◌ : ℕ → List ℕ → Closing
t gives_up ts = record { ticket = t; given_up = ts }

-- what is said of a board: the excess of a wait, l* with the tight set's tickets, the first closings, and what can still be promised with this longest wait
pub data Fact : Type 0 where
  excess_is : (l : ℕ) (x : ℤ) → Fact
  tight_is : (l : ℕ) (tickets : List ℕ) → Fact
  closes : List Closing → Fact
  promises : (longest w : ℕ) → Fact

-- 'Written as wait/grade': a wait and a grade
pub record Waiting : Type 0 where
  pub wait : ℕ
  pub grade : ℕ

infix 90 ◌of_grade◌
unfoldable pub ◌of_grade◌ : ℕ → ℕ → Waiting
w of_grade g = record { wait = w; grade = g }

-- a board and what is said of it
pub record WorkedBoard : Type 0 where
  pub depth : ℕ
  pub waiting : List Waiting
  pub facts : List Fact

unfoldable pub table : List WorkedBoard
table =
    -- 1: excess 1, 2, 1, 2 at 3, 5, 7, 9; l* is 3, two racks tight
    record {
      depth = 0;
      waiting = 3 of_grade 0 ∷ 3 of_grade 0 ∷ 5 of_grade 0 ∷ 7 of_grade 0 ∷ 7 of_grade 0 ∷ 7 of_grade 0 ∷ 9 of_grade 0 ∷ [];
      facts = excess_is 3 (pos 1) ∷ excess_is 5 (pos 2) ∷ excess_is 7 (pos 1) ∷ excess_is 9 (pos 2) ∷ tight_is 3 (1 ∷ 2 ∷ []) ∷ [];
    }
    -- 2: grade 1 is baked first, then grade 0
    ∷ record { depth = 1; waiting = 1 of_grade 1 ∷ 2 of_grade 0 ∷ []; facts = closes (1 gives_up [] ∷ 2 gives_up [] ∷ []) ∷ [] }
    -- 3: grade 0 is baked, grade 1 given up
    ∷ record { depth = 1; waiting = 1 of_grade 1 ∷ 1 of_grade 0 ∷ []; facts = closes (2 gives_up (1 ∷ []) ∷ []) ∷ [] }
    -- 4: grade 0, then the 2/1
    ∷ record { depth = 1; waiting = 1 of_grade 1 ∷ 2 of_grade 1 ∷ 2 of_grade 0 ∷ []; facts = closes (3 gives_up (1 ∷ []) ∷ 2 gives_up [] ∷ []) ∷ [] }
    -- 5: grade 0 (lower ticket), then 1, then 0
    ∷ record { depth = 1; waiting = 2 of_grade 1 ∷ 3 of_grade 0 ∷ 3 of_grade 0 ∷ []; facts = closes (2 gives_up [] ∷ 1 gives_up [] ∷ 3 gives_up [] ∷ []) ∷ [] }
    -- 6: the 1/2 first
    ∷ record { depth = 2; waiting = 2 of_grade 1 ∷ 1 of_grade 2 ∷ 3 of_grade 0 ∷ []; facts = closes (2 gives_up [] ∷ []) ∷ [] }
    -- 7: the 2/1 first, 1/2 given up; then grade 0, then 3
    ∷ record {
      depth = 2;
      waiting = 2 of_grade 1 ∷ 1 of_grade 2 ∷ 3 of_grade 0 ∷ 3 of_grade 3 ∷ [];
      facts = closes (1 gives_up (2 ∷ []) ∷ 3 gives_up [] ∷ 4 gives_up [] ∷ []) ∷ [];
    }
    -- 8: one rack 3/0: it is baked; empty board: empty
    ∷ record { depth = 1; waiting = 3 of_grade 0 ∷ []; facts = closes (1 gives_up [] ∷ 0 gives_up [] ∷ []) ∷ [] }
    ∷ record { depth = 1; waiting = []; facts = closes (0 gives_up [] ∷ []) ∷ promises 4 1 ∷ [] }
    -- 02, Six: past the last full wait, not the first; with no longer one, none
    ∷ record { depth = 0; waiting = 1 of_grade 0 ∷ 4 of_grade 0 ∷ 4 of_grade 0 ∷ 4 of_grade 0 ∷ []; facts = promises 5 5 ∷ promises 4 0 ∷ [] }
    -- the longest wait full, and one rack fewer; then more racks than slots
    ∷ record { depth = 0; waiting = 3 of_grade 0 ∷ 3 of_grade 0 ∷ 3 of_grade 0 ∷ []; facts = promises 3 0 ∷ promises 4 4 ∷ [] }
    ∷ record { depth = 0; waiting = 3 of_grade 0 ∷ 3 of_grade 0 ∷ []; facts = promises 3 1 ∷ [] }
    ∷ record { depth = 0; waiting = 1 of_grade 0 ∷ 1 of_grade 0 ∷ []; facts = promises 5 0 ∷ [] }
    ∷ []

-- 'tickets in that order', from t on; admitted in slot 1
unfoldable pub numbered : ℕ → List Waiting → List Job
numbered t [] = []
numbered t (x ∷ xs) = job t 1 x.wait x.grade ∷ numbered (suc t) xs

unfoldable pub tickets : List Job → List ℕ
tickets A = map (λ (r : Job). r.ticket) A

-- the first n closings from slot now on
unfoldable pub closings : (now d n : ℕ) → List Job → List Closing
closings now d zero A = []
closings now d (suc n) A =
    let o = baked now d A in
    ticket_of o gives_up tickets (select (expires now (ticket_of o)) A) ∷ closings (suc now) d n (select (stays now (ticket_of o)) A)

-- what the definitions say in its place, in slot 1
unfoldable pub computed : ℕ → List Job → Fact → Fact
computed d A (excess_is l x) = excess_is l (excess 1 A l)
computed d A (tight_is l ts) = tight_is (tight_laxity 1 A) (tickets (tight 1 A))
computed d A (closes cs) = closes (closings 1 d (length cs) A)
computed d A (promises n w) = promises n (least_promised n 1 A)

-- on every board of the table the definitions say what is said there
unfoldable pub Worked : Type 0
Worked = map (λ w. map (computed w.depth (numbered 1 w.waiting)) w.facts) table ≡ map (λ w. w.facts) table

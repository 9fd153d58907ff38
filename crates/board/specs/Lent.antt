-- The list that a caller lends to a closing, and what it holds afterwards.
use Rattle.std.specs.Prelude.{◌≡◌, List, ◌++◌, map, ℕ, min, length, drop}
use Rattle.rule.specs.Job.{Job}
use Rattle.board.specs.declared.Board.{Board}
use Rattle.board.specs.declared.Closed.{Closed}
use Rattle.board.specs.Close.{closed, listing}

-- 'one entry a rack: ticket, grade, admitted slot', each in a list of its own
pub record Lent : Type 0 where
  pub tickets : List ℕ
  pub grades : List ℕ
  pub slots : List ℕ

abbrev pub lent_of : (tickets grades slots : List ℕ) → Lent
lent_of T G S = record { tickets = T; grades = G; slots = S }

-- how many entries it has
unfoldable pub entry_count : Lent → ℕ
entry_count l = min (min (length l.tickets) (length l.grades)) (length l.slots)

-- 'Given-up racks are written from the start of a list the caller lends [..] Entries after them keep what they had.'
unfoldable pub written_over : {E : Type 0} → (entry : Job → E) → List Job → List E → List E
written_over entry A l = map entry A ++ drop (length A) l

-- the list with the jobs A
unfoldable pub lent_with : List Job → Lent → Lent
lent_with A l =
    lent_of (written_over (λ (r : Job). r.ticket) A l.tickets) (written_over (λ (r : Job). r.grade) A l.grades)
    (written_over (λ (r : Job). r.admitted) A l.slots)

-- What a closing of the board b promises, with its list as it was before and is after: the answer, and every entry of the list.
pub record ClosedInto (b : Board) (before after : Lent) (r : Closed) : Type 0 where
  pub answer : r ≡ closed b (entry_count before)
  pub list : after ≡ lent_with (listing b (entry_count before)) before

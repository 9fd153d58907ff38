-- Rules: any way of choosing that sees the book so far and nothing else.
use Rattle.std.specs.Prelude.{cond, not, ◌&&◌, List, [], ◌∷◌, ◌++◌, ℕ, suc, eqb}
use Rattle.lists.specs.Select.{select, has}
use Rattle.rule.specs.Job.{Job, job, in_date}
use Rattle.books.specs.Book.{Beginning, Change, enter, end_slot, Book}
use Rattle.books.specs.Schedule.{Schedule, from_slot}

-- 'A rule says at each closing which rack [..] it bakes, or none': it names a ticket.
-- 'It knows D, the slot and highest ticket the book began with, and the admittings and closings in the book up to then, in order.' 02, Seven: 'A rule knows
-- these racks', with which the book began.
abbrev pub Rule : Type 0
Rule = (depth : ℕ) → Beginning → List Change → ℕ

-- 'in date and not baked by it before': the ticket named, if one of the jobs left has it and is in date in slot s, and 0 else
unfoldable pub valid : ℕ → List Job → ℕ → ℕ
valid s left t = cond (has (λ r. eqb r.ticket t && in_date s r) left) t 0

-- the jobs left when the ticket t is baked
unfoldable pub without : ℕ → List Job → List Job
without t left = select (λ r. not (eqb r.ticket t)) left

-- The tickets that a rule bakes, one for each closing of the changes to come: `past` are the changes so far, s is the slot, and `left`
-- the jobs of the book so far that it has not baked.
unfoldable pub choices : Rule → ℕ → Beginning → List Change → ℕ → List Job → List Change → List ℕ
choices q d b past s left [] = []
choices q d b past s left (enter t w g ∷ cs) = choices q d b (past ++ (enter t w g ∷ [])) s (left ++ (job t s w g ∷ [])) cs
choices q d b past s left (end_slot ∷ cs) =
    let t = valid s left (q d b past) in
    t ∷ choices q d b (past ++ (end_slot ∷ [])) (suc s) (without t left) cs

-- the schedule that a rule makes of a book
unfoldable pub made_by : Rule → ℕ → Book → Schedule
made_by q d B = from_slot B.beginning.slot (choices q d B.beginning [] B.beginning.slot B.beginning.jobs B.changes)

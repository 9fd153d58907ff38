-- Plans from a slot on, in a book without end, if nothing more arrives.
use Rattle.std.specs.Prelude.{◌≡◌, Bool, true, false, not, ◌&&◌, ◌||◌, ℕ, zero, suc, ◌≤◌, leb, eqb}
use mathlib.Core.List.{List, [], map, Memᴰ}
use Rattle.lists.specs.Select.{how_many, every}
use Rattle.lists.specs.Rise.{rise}
use Rattle.rule.specs.Job.{Job, laxity}
use Rattle.books.specs.Book.{Book}
use Rattle.books.specs.Schedule.{Schedule, IsSchedule}

-- jobs as they stand on a sound board: tickets rise from 1 on, and none is admitted later than now
unfoldable pub waiting : ℕ → List Job → Bool
waiting now A = rise 0 (map (λ (r : Job). r.ticket) A) && every (λ (r : Job). leb r.admitted now) A

-- 'if nothing more arrives': the book that begins in slot `now` with these jobs and enters no others. No plan knows its highest ticket.
unfoldable pub nothing_more : ℕ → List Job → Book
nothing_more now A = record { beginning = record { slot = now; highest = 0; jobs = A }; changes = [] }

-- 'any plan from that bake on [..], slots past the book's end counted': it gives jobs to no slot before `now`, and no slot is the last
pub record PlanFrom (now : ℕ) (A : List Job) (p : Schedule) : Type 0 where
  pub plan : IsSchedule (nothing_more now A) p
  pub start : (s : ℕ) → ¬ (p s ≡ 0) → now ≤ s

-- one of the k slots from s on is given the ticket t
unfoldable pub gives_slot : Schedule → (s k t : ℕ) → Bool
gives_slot p s zero t = false
gives_slot p s (suc k) t = eqb (p s) t || gives_slot p (suc s) k t

-- the job is baked: one of the slots from now to its last is given its ticket
unfoldable pub bakes_job : Schedule → ℕ → Job → Bool
bakes_job p now r = gives_slot p now (laxity now r) r.ticket

-- how many of the jobs a plan gives up: those that it does not bake
unfoldable pub given_up_by : Schedule → ℕ → List Job → ℕ
given_up_by p now A = how_many (λ r. not (bakes_job p now r)) A

-- A plan bakes a job, in this sense, exactly when some slot, whichever it is, is given its ticket.
unfoldable pub BakedSomewhere : Type 0
BakedSomewhere =
    (now : ℕ) (A : List Job) → waiting now A ≡ true → (p : Schedule) → PlanFrom now A p → (r : Job) → Memᴰ r A
    → (bakes_job p now r ≡ true → (s : ℕ) × (p s ≡ r.ticket)) × ((s : ℕ) → p s ≡ r.ticket → bakes_job p now r ≡ true)

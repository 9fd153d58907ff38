-- Schedules: 01's plans.
use Rattle.std.specs.Prelude.{◌≡◌, Bool, true, cond, ◌&&◌, ℕ, zero, suc, ◌+◌, ◌≤◌, eqb}
use mathlib.Core.List.{List, [], ◌∷◌, Memᴰ}
use Rattle.lists.specs.Select.{has, one_if}
use Rattle.rule.specs.Job.{Job}
use Rattle.books.specs.Book.{Book, jobs}

-- the ticket that each slot is given, 0 for none
abbrev pub Schedule : Type 0
Schedule = ℕ → ℕ

-- 'A plan gives each slot at most one rack of the book and each rack at most one slot, from its admitted slot to its last.'
pub record IsSchedule (B : Book) (p : Schedule) : Type 0 where
  pub of_book : (s : ℕ) → ¬ (p s ≡ 0) → (r : Job) × Memᴰ r (jobs B) × (r.ticket ≡ p s) × (r.admitted ≤ s) × (s ≤ r.last)
  pub once : (s t : ℕ) → ¬ (p s ≡ 0) → p s ≡ p t → s ≡ t

-- a slot is given a job of the book that passes the test
unfoldable pub gives : (Job → Bool) → Book → Schedule → ℕ → Bool
gives test B p s = has (λ r. eqb r.ticket (p s) && test r) (jobs B)

-- 'What a plan bakes in the first k slots is the racks it gives to the book's first k slots': how many of them pass the test
unfoldable pub baked_in : (Job → Bool) → Book → Schedule → ℕ → ℕ
baked_in test B p zero = 0
baked_in test B p (suc k) = baked_in test B p k + one_if (gives test B p (B.beginning.slot + k))

-- how many are baked in the first k slots
unfoldable pub total : Book → Schedule → ℕ → ℕ
total B p k = baked_in (λ r. true) B p k

-- the schedule that gives the slots from s on the tickets of a list, in order, and all other slots none
unfoldable pub from_slot : ℕ → List ℕ → Schedule
from_slot s [] j = 0
from_slot s (t ∷ ts) j = cond (eqb j s) t (from_slot (suc s) ts j)

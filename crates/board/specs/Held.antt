-- The jobs on a board.
use Rattle.std.specs.Prelude.{Bool, List, ◌++◌, map, ℕ, ◌-◌, eqb, length, take, replicate}
use Rattle.lists.specs.Select.{select, how_many}
use Rattle.rule.specs.Job.{Job}
use Rattle.board.specs.declared.Place.{Place}
use Rattle.board.specs.declared.Slot.{Slot}
use Rattle.board.specs.declared.Board.{Board}
use Rattle.board.specs.Limits.{places_held}

abbrev pub slot_number : ℕ → Slot
slot_number n = record { 0 = n }

-- A board is read through two definitions: its present slot, and its jobs, `held`.
abbrev pub slot_of : Board → ℕ
slot_of b = b.slot.0

-- a place read as a job
unfoldable pub job_in : Place → Job
job_in x = record { ticket = x.ticket; admitted = x.admitted.0; last = x.last.0; grade = x.grade }

-- a place that holds no job: all zero
abbrev pub blank : Place
blank = record { ticket = 0; admitted = slot_number 0; last = slot_number 0; grade = 0 }

-- the places in use, and the jobs in them
unfoldable pub used : Board → List Place
used b = take b.count b.places

unfoldable pub held : Board → List Job
held b = map job_in (used b)

-- how many of the jobs on the board were admitted in its slot
unfoldable pub in_slot : Board → ℕ
in_slot b = how_many (λ r. eqb r.admitted (slot_of b)) (held b)

-- the places in use whose jobs pass the test
unfoldable pub passing : Board → (Job → Bool) → List Place
passing b test = select (λ x. test (job_in x)) (used b)

-- the board in the slot k with only the jobs that pass the test, from the first place on
unfoldable pub thinned : Board → (slot : ℕ) → (Job → Bool) → Board
thinned b k test =
    record {
      depth = b.depth;
      slot = slot_number k;
      highest = b.highest;
      count = length (passing b test);
      places = passing b test ++ replicate (places_held - length (passing b test)) blank;
    }

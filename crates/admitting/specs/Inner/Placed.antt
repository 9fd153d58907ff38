-- What admitting reads of a board, and the job that it puts in the first free place.
use Rattle.std.specs.Prelude.{cond, ℕ, ◌+◌, ◌^◌, ◌≤◌, ◌<◌, leb, get_or, set}
use Rattle.board.specs.declared.Slot.{Slot}
use Rattle.board.specs.declared.Place.{Place}
use Rattle.board.specs.declared.Board.{Board}
use Rattle.board.specs.Limits.{longest_laxity, places_held, last_slot, deepest}
use Rattle.board.specs.Held.{blank}
use Rattle.packing.specs.declared.Head.{Head}

-- what a board holds beside its places
abbrev pub head_of : Board → Head
head_of b = record { depth = b.depth; slot = b.slot; highest = b.highest; count = b.count }

-- the slot that the job in a place was admitted in, 0 past the places
abbrev pub admitted_at : Board → ℕ → Slot
admitted_at b at = (get_or b.places at blank).admitted

-- there is a free place, and the job has a last slot and a grade that a job of a sound board can have
pub record Placeable (b : Board) (job : Place) : Type 0 where
  pub free : b.count < places_held
  pub in_book : job.last.0 ≤ last_slot + longest_laxity
  pub graded : job.grade < 2 ^ deepest

-- the board with the job
abbrev pub with_place : Board → Place → Board
with_place b job = record { depth = b.depth; slot = b.slot; highest = job.ticket; count = b.count + 1; places = set b.places b.count job }

-- the board with the job where it has a free place, else as it was
unfoldable pub with_place_if_free : Board → Place → Board
with_place_if_free b job = cond (leb places_held b.count) b (with_place b job)

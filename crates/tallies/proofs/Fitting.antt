-- What is known where a tally fits.
use Rattle.std.proofs.Common.{◌≡◌, ℕ, ◌+◌, ◌≤◌, leb, true, leb-true, le-leb}
use Rattle.lists.proofs.Tests.{and_left, and_right, and_intro}
use Rattle.board.specs.Tally.{tally_grades}
use Rattle.tallies.specs.Room.{tally_room, tally_fits}

-- as many grades as the tally has at the most, and room
pub tally_fitting : (n at end : ℕ) → n ≤ tally_grades → at + tally_room ≤ end → tally_fits n at end ≡ true
unfolding tally_fits
tally_fitting n at end h k = and_intro (leb n tally_grades) (leb (at + tally_room) end) (le-leb n tally_grades h) (le-leb (at + tally_room) end k)

pub fitting_tally : (n at end : ℕ) → tally_fits n at end ≡ true → (n ≤ tally_grades) × (at + tally_room ≤ end)
unfolding tally_fits
fitting_tally n at end h =
    (leb-true n tally_grades (and_left (leb n tally_grades) (leb (at + tally_room) end) h), leb-true (at + tally_room) end (and_right (leb n tally_grades) (leb (at + tally_room) end) h))

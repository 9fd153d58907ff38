-- In arrays a job that can be placed is held as it is.
use Rattle.std.specs.Prelude.{◌≡◌}
use native.Mathlib.Omega.{arith}
use Rattle.board.specs.declared.Place.{Place}
use Rattle.board.specs.declared.Board.{Board}
use Rattle.board.specs.Limits.{longest_laxity, last_slot}
use Rattle.board.specs.Tally.{tally_grades}
use Rattle.packing.specs.Inner.Packed.{packed}
use Rattle.packing.proofs.OnSound.{packed_whole}
use Rattle.admitting.specs.Inner.Placed.{Placeable}

pub held_whole : (b : Board) (job : Place) → Placeable b job → packed job ≡ job
unfolding longest_laxity last_slot tally_grades
held_whole b job p = packed_whole job (omega (arith, p)) (omega (arith, p))

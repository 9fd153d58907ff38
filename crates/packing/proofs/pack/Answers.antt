-- After i turns the first i places are those that the arrays have.
use Rattle.board.specs.Limits.{places_held}
use Rattle.packing.proofs.Moving.{taken_none, taken_more, taken_all}
use Rattle.packing.proofs.pack.Goals as goal

pub loop-i-init : goal.loop-i-init
unfolding places_held
loop-i-init c = taken_none _ _ _ _ _ c.blank-places.result c.min-i-end.ensures c.blank-places.ensures

pub loop-i-preserved : goal.loop-i-preserved
loop-i-preserved c = taken_more c.loop-i.invariant c.place.result c.place.ensures c.loop-i-test.true

pub returns : goal.returns
returns c = taken_all c.loop-i.invariant c.loop-i-test.false

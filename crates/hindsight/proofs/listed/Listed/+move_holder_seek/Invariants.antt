-- `seek` and `move_holder` call each other. `seek` visits a slot before it asks the holder to move, so the unvisited slots fall.
use Rattle.std.proofs.Common.{◌+◌, ◌*◌}
use Rattle.hindsight.specs.Inner.Search.{unvisited}
use Rattle.hindsight.proofs.Searching.Looking.{Looking}
use Rattle.hindsight.proofs.listed.Listed.+move_holder_seek.Given as goal

abbrev pub decreases-move_holder : goal.decreases-move_holder
decreases-move_holder l = 2 * unvisited l.trail.now + 1

abbrev pub decreases-seek : goal.decreases-seek
decreases-seek l = 2 * unvisited l.trail.now

abbrev pub invariant-seek-loop-at : goal.invariant-seek-loop-at
invariant-seek-loop-at l = Looking l.self.windows.now l.job l.initial.trail l.trail l.at

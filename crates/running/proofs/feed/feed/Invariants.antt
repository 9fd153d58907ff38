use Prim.Native.Nat.{◌-◌}
use lib.ListN.{length}
use Rattle.running.specs.Inner.Machines.{TakenIn}
use Rattle.running.proofs.feed.feed.Given as goal

abbrev pub invariant-loop-used : goal.invariant-loop-used
invariant-loop-used l =
    TakenIn l.initial.state l.chunk l.from l.initial.out l.at (record { state = l.state; used = l.used; at = l.end }) l.out

abbrev pub decreases-loop-used : goal.decreases-loop-used
decreases-loop-used l = length l.chunk - l.used

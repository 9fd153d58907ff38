use mathlib.Core.Path.{◌≡◌}
use Prim.Native.Nat.{◌-◌}
use lib.ListN.{length}
use Rattle.running.proofs.Running.Chunks.{Along}
use Rattle.running.proofs.run.Progress.take_in.Given as goal

abbrev pub invariant-loop-used : goal.invariant-loop-used
invariant-loop-used g l = Along l.fn.self l.chunk l.self l.used × (length l.out ≡ length l.fn.out)

abbrev pub decreases-loop-used : goal.decreases-loop-used
decreases-loop-used g l = length l.chunk - l.used

use mathlib.Core.Path.{◌≡◌}
use Prim.Native.Nat.{◌+◌, ◌≤◌}
use lib.ListN.{length}
use Rattle.lines.specs.Printing.{decimal}
use Rattle.buffer.specs.Puts.{put}
use Rattle.printing.proofs.put_number.Given as goal

abbrev pub invariant-loop-rest : goal.invariant-loop-rest
invariant-loop-rest l =
    (l.next ≡ l.at + length (decimal l.rest))
    × (l.next ≤ length l.initial.out)
    × (length l.out ≡ length l.initial.out)
    × (put l.out l.at (decimal l.rest) ≡ put l.initial.out l.at (decimal l.n))

abbrev pub decreases-loop-rest : goal.decreases-loop-rest
decreases-loop-rest l = l.rest

use mathlib.Core.Path.{◌≡◌}
use Prim.Native.Nat.{◌*◌, ◌≤◌}
use lib.ListN.{length}
use Rattle.printing.specs.Lines.{room}
use Rattle.buffer.proofs.Pieces.{Left}
use Rattle.worklist.specs.Output.{printed_slots}
use Rattle.planning.proofs.Slots.{left_from}
use Rattle.planning.proofs.plan.print_slots.Given as goal

abbrev pub invariant-loop-i : goal.invariant-loop-i
invariant-loop-i l =
    (l.end ≤ room * l.i)
    × (length l.out ≡ length l.initial.out)
    × Left (printed_slots 1 l.slots) l.initial.out 0 (left_from l.slots l.i) l.out l.end

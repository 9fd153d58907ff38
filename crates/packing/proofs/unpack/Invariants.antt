use Rattle.std.proofs.Common.{◌≡◌}
use Rattle.board.specs.declared.Board.{Board}
use Rattle.packing.specs.declared.Head.{Head}
use Rattle.packing.proofs.Moving.{Unpacked}
use Rattle.packing.proofs.unpack.Given as goal

abbrev pub head_of : Board → Head
head_of b = record { depth = b.depth; slot = b.slot; highest = b.highest; count = b.count }

abbrev pub invariant-loop-i : goal.invariant-loop-i
invariant-loop-i l =
    record {
      head : l.packed.head ≡ head_of l.b;
      places : Unpacked l.b l.i-end l.i l.packed.keys l.packed.tickets l.packed.admitted;
    }

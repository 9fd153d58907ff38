use Rattle.packing.proofs.Moving.{Taken}
use Rattle.packing.proofs.pack.Given as goal

abbrev pub invariant-loop-i : goal.invariant-loop-i
invariant-loop-i l = Taken l.packed.head l.packed.keys l.packed.tickets l.packed.admitted l.i-end l.i l.places

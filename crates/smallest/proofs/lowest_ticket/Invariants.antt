use Rattle.smallest.proofs.Lowest.{LowestTo}
use Rattle.smallest.proofs.lowest_ticket.Given as goal

abbrev pub invariant-loop-i : goal.invariant-loop-i
invariant-loop-i l = LowestTo l.k-items l.b.tickets l.key l.i l.lowest

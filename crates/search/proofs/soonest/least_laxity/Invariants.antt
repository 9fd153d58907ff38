use Rattle.std.proofs.Common.{◌≡◌}
use Rattle.search.specs.Inner.Counts.{sum, column}
use Rattle.search.proofs.soonest.least_laxity.Given as goal

abbrev pub invariant-loop-k : goal.invariant-loop-k
invariant-loop-k l = sum (column l.counts l.grade 0) l.k ≡ 0

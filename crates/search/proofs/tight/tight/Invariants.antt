use Rattle.std.proofs.Common.{◌≡◌, ◌+◌, ◌*◌, ◌^◌, ◌≤◌}
use Rattle.board.specs.Limits.{deepest}
use Rattle.search.specs.Inner.Counts.{sum, column}
use Rattle.search.proofs.BestLaxity.{BestTo}
use Rattle.search.proofs.tight.tight.Given as goal

abbrev pub invariant-loop-k : goal.invariant-loop-k
invariant-loop-k l =
    record {
      few : l.within ≤ 2 ^ (16 + deepest) * l.k;
      counted : l.within ≡ sum (column l.counts 0 deepest) l.k;
      tightest : BestTo (column l.counts 0 deepest) l.k l.best;
    }

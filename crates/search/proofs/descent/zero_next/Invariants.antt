use Rattle.std.proofs.Common.{◌+◌, ◌*◌, ◌^◌, ◌≤◌}
use Rattle.board.specs.Limits.{deepest}
use Rattle.search.proofs.ZeroFound.{ZeroTo}
use Rattle.search.proofs.descent.zero_next.Given as goal

abbrev pub invariant-loop-k : goal.invariant-loop-k
invariant-loop-k l =
    record {
      within_few : l.within ≤ 2 ^ (17 + deepest) * l.k;
      zeros_few : l.zeros ≤ 2 ^ (16 + deepest) * l.k;
      zero : ZeroTo l.counts l.fn.prefix.bits l.fn.prefix.left l.k l.best l.within l.zeros;
    }

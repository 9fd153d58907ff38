use Rattle.std.proofs.Common.{◌≡◌, ◌+◌, ◌*◌, ◌^◌, ◌≤◌}
use Rattle.board.specs.Limits.{longest_laxity, deepest}
use Rattle.search.proofs.PromiseFound.{within_all, FullFor}
use Rattle.search.proofs.room.after_full.Given as goal

abbrev pub invariant-loop-k : goal.invariant-loop-k
invariant-loop-k l =
    record {
      full_small : l.full ≤ longest_laxity;
      few : l.within ≤ 2 ^ (16 + deepest) * l.k;
      counted : l.within ≡ within_all l.counts l.k;
      last_full : FullFor l.counts l.k l.full;
    }

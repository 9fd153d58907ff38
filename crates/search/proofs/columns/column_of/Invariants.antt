use Rattle.std.proofs.Common.{◌≡◌, ◌-◌, ◌*◌, ◌^◌, ◌≤◌}
use Rattle.search.specs.Inner.Counts.{sum}
use Rattle.search.proofs.Cells.{cell_from}
use Rattle.search.proofs.columns.column_of.Given as goal

abbrev pub invariant-loop-count : goal.invariant-loop-count
invariant-loop-count l =
    record {
      bounded : l.total ≤ (2 ^ 16 - 1) * l.count-index;
      exact : l.total ≡ sum (cell_from l.counts l.fn.prefix.bits l.fn.prefix.left l.k) l.count-index;
    }

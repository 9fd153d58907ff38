-- The sum of the cells passed.
use Rattle.std.proofs.Common.{◌≡◌, ◌^◌, refl, ap, ◌∙◌, arith, rules}
use Rattle.search.specs.Inner.Counts.{sum, column}
use Rattle.board.specs.Limits.{longest_laxity, deepest}
use Rattle.board.specs.Tally.{tally_grades}
use Rattle.counts.specs.Counts.{cells}
use Rattle.search.proofs.Sums.{sum_more}
use Rattle.search.proofs.Cells.{cell_from, column_short, column_narrow, column_inside, cell_at, all_cells}
use Rattle.search.proofs.columns.column_of.Goals as goal

pub overflow_shl-n : goal.overflow_shl-n
overflow_shl-n c = column_short c.args.prefix.bits c.args.prefix.left c.args.k c.requires c.args.prefix.in_range

pub overflow_mul-first : goal.overflow_mul-first
unfolding cells longest_laxity tally_grades deepest
overflow_mul-first c = omega (arith, column_inside c.args.prefix.bits c.args.prefix.left c.args.k c.requires c.args.prefix.in_range)

pub overflow_mul-first-2 : goal.overflow_mul-first-2
unfolding cells longest_laxity tally_grades deepest
overflow_mul-first-2 c = omega (arith, column_inside c.args.prefix.bits c.args.prefix.left c.args.k c.requires c.args.prefix.in_range)

pub overflow_add-first : goal.overflow_add-first
unfolding cells longest_laxity tally_grades deepest
overflow_add-first c = omega (arith, column_inside c.args.prefix.bits c.args.prefix.left c.args.k c.requires c.args.prefix.in_range)

pub overflow_add-count-items : goal.overflow_add-count-items
unfolding cells longest_laxity tally_grades deepest
overflow_add-count-items c = omega (arith, column_inside c.args.prefix.bits c.args.prefix.left c.args.k c.requires c.args.prefix.in_range)

pub offset_bounds-counts-first : goal.offset_bounds-counts-first
unfolding cells longest_laxity tally_grades deepest
offset_bounds-counts-first c = omega (arith, column_inside c.args.prefix.bits c.args.prefix.left c.args.k c.requires c.args.prefix.in_range)

pub slice_bounds-count-items-end : goal.slice_bounds-count-items-end
unfolding cells longest_laxity tally_grades deepest
slice_bounds-count-items-end c = omega (arith, column_inside c.args.prefix.bits c.args.prefix.left c.args.k c.requires c.args.prefix.in_range)

pub loop-count-init : goal.loop-count-init
unfolding sum
loop-count-init c = record { bounded = omega arith; exact = refl }

pub overflow_add-total : goal.overflow_add-total
unfolding cells longest_laxity tally_grades deepest
overflow_add-total c =
    let a = c.args in
    omega (arith, all_cells a.prefix.bits a.prefix.left a.k c.requires a.prefix.in_range a.counts.now (search rules), column_narrow a.prefix.bits a.prefix.left a.k c.requires a.prefix.in_range)

pub loop-count-preserved : goal.loop-count-preserved
loop-count-preserved c =
    let a = c.args in
    let i = c.loop-count.count-index in
    let v = cell_at a.prefix.bits a.prefix.left a.k c.requires a.prefix.in_range a.counts.now i c.loop-count-test.true in
    record {
      bounded = omega arith;
      exact = omega (arith, v, sum_more (cell_from a.counts.now a.prefix.bits a.prefix.left a.k) i, c.loop-count.invariant.exact);
    }

pub returns : goal.returns
unfolding column cells longest_laxity tally_grades deepest
returns c =
    let a = c.args in
    let e : c.loop-count.count-index ≡ 2 ^ a.prefix.left = omega (arith, all_cells a.prefix.bits a.prefix.left a.k c.requires a.prefix.in_range a.counts.now (search rules)) in
    (c.loop-count.invariant.exact ∙ ap (sum (cell_from a.counts.now a.prefix.bits a.prefix.left a.k)) e, omega (arith, e, column_narrow a.prefix.bits a.prefix.left a.k c.requires a.prefix.in_range))

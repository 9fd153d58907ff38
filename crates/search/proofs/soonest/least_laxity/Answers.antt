-- No job of the grade has a laxity passed.
use Rattle.std.proofs.Common.{◌≡◌, refl, subst, arith}
use Rattle.board.specs.Limits.{longest_laxity}
use Rattle.search.specs.Inner.Counts.{sum, column}
use Rattle.search.proofs.Sums.{sum_more}
use Rattle.search.proofs.FromCounts.{least_of, none_of}
use Rattle.search.proofs.soonest.least_laxity.Goals as goal

pub loop-k-init : goal.loop-k-init
unfolding sum
loop-k-init c = refl

pub returns-then-column_of-ne0 : goal.returns-then-column_of-ne0
unfolding longest_laxity
returns-then-column_of-ne0 c =
    let a = c.args in
    least_of a.counts.now a.grade c.loop-k.k (omega arith) (omega (arith, c.column_of.ensures.0, c.if-column_of-ne0.true)) c.loop-k.invariant

pub loop-k-preserved : goal.loop-k-preserved
loop-k-preserved c =
    let a = c.args in
    omega (arith, c.column_of.ensures.0, sum_more (column a.counts.now a.grade 0) c.loop-k.k, c.if-column_of-ne0.false, c.loop-k.invariant)

pub returns : goal.returns
unfolding longest_laxity
returns c =
    let a = c.args in
    let e : c.loop-k.k ≡ longest_laxity = omega arith in
    none_of a.counts.now a.grade (subst (λ n. sum (column a.counts.now a.grade 0) n ≡ 0) e c.loop-k.invariant)

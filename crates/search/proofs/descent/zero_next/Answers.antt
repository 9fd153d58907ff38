-- After each laxity, the best so far with no job within it that has 0 for its next bit.
use Rattle.std.proofs.Common.{sym, ◌∙◌, arith}
use Rattle.board.specs.Limits.{longest_laxity, deepest}
use Rattle.search.proofs.Sums.{column_together}
use Rattle.search.proofs.ZeroFound.{zero_none, zero_more, zero_found, zero_ended}
use Rattle.search.proofs.descent.zero_next.Goals as goal

pub loop-k-init : goal.loop-k-init
unfolding deepest
loop-k-init c = record { within_few = omega arith; zeros_few = omega arith; zero = zero_none _ _ _ }

pub returns-then-zero_within : goal.returns-then-zero_within
unfolding longest_laxity
returns-then-zero_within c =
    let a = c.args in
    let z = c.with-with_zero.ensures in
    let o = c.with-with_one.ensures in
    let e = column_together a.counts.now a.prefix.bits a.prefix.left c.loop-k.k c.requires z.bits z.left o.bits o.left c.column_of-zero.ensures.0 c.column_of-one.ensures.0 in
    zero_found a.counts.now a.prefix.bits a.prefix.left c.requires (omega arith) c.loop-k.invariant.zero _ _ e.0 e.1
    (rw (← c.better-best.ensures) (sym c.zero_within.ensures ∙ c.if-zero_within.true))

pub loop-k-preserved : goal.loop-k-preserved
unfolding deepest
loop-k-preserved c =
    let a = c.args in
    let z = c.with-with_zero.ensures in
    let o = c.with-with_one.ensures in
    let e = column_together a.counts.now a.prefix.bits a.prefix.left c.loop-k.k c.requires z.bits z.left o.bits o.left c.column_of-zero.ensures.0 c.column_of-one.ensures.0 in
    let i = c.loop-k.invariant in
    record {
      within_few = omega (arith, c.column_of-zero.ensures.1, c.column_of-one.ensures.1, i.within_few);
      zeros_few = omega (arith, c.column_of-zero.ensures.1, i.zeros_few);
      zero =
          rw c.better-best.ensures
          (zero_more a.counts.now a.prefix.bits a.prefix.left i.zero _ _ e.0 e.1
          (rw (← c.better-best.ensures) (sym c.zero_within.ensures ∙ c.if-zero_within.false)));
    }

pub returns : goal.returns
unfolding longest_laxity
returns c = zero_ended c.args.counts.now c.args.prefix.bits c.args.prefix.left c.requires (omega arith) c.loop-k.invariant.zero

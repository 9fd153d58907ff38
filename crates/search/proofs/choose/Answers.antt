-- The grade that the descent ends at has the no-regret set, and the soonest job of that grade is baked.
use Rattle.std.proofs.Common.{subst, ap, arith}
use lib.Pow.{pow_mono}
use Rattle.board.specs.Limits.{last_slot, longest_laxity}
use Rattle.packing.specs.Inner.Packed.{in_use}
use Rattle.counts.proofs.Along.{with_others}
use Rattle.smallest.specs.Inner.Lowest.{LowestOf}
use Rattle.search.specs.Inner.Answers.{laxity_in}
use Rattle.search.proofs.BakeFound.{nothing, shallow, last_fits, job_found}
use Rattle.search.proofs.choose.Goals as goal

pub returns-then-is_none : goal.returns-then-is_none
returns-then-is_none c A = let b = c.args.b.now in nothing (with_others b b.tickets A) (c.requires.counted b.tickets A) _ c.requires.tight c.if-is_none.ensures

pub invariant_of-prefix : goal.invariant_of-prefix
invariant_of-prefix c =
    omega (arith, pow_mono (shallow c.args.b.now (c.requires.counted c.args.b.now.tickets c.args.b.now.admitted) _ c.requires.tight c.if-is_none.ensures))

pub least_laxity-requires : goal.least_laxity-requires
least_laxity-requires c =
    omega (arith, pow_mono (shallow c.args.b.now (c.requires.counted c.args.b.now.tickets c.args.b.now.admitted) _ c.requires.tight c.if-is_none.ensures), c.descend-grade.ensures.1)

pub returns-in_err-laxity : goal.returns-in_err-laxity
returns-in_err-laxity c =
    let fits = last_fits c.args.b.now (c.requires.counted c.args.b.now.tickets c.args.b.now.admitted) _ c.requires.tight c.if-is_none.ensures _ _ c.descend-grade.ensures c.least_laxity.ensures in
    absurd (omega (arith, fits.0, ap laxity_in c.in_err-laxity.was))

pub overflow_add-last : goal.overflow_add-last
unfolding last_slot longest_laxity
overflow_add-last c =
    omega (arith, last_fits c.args.b.now (c.requires.counted c.args.b.now.tickets c.args.b.now.admitted) _ c.requires.tight c.if-is_none.ensures _ _ c.descend-grade.ensures c.in_ok-laxity.ensures)

pub overflow_sub-last : goal.overflow_sub-last
overflow_sub-last c =
    omega (arith, last_fits c.args.b.now (c.requires.counted c.args.b.now.tickets c.args.b.now.admitted) _ c.requires.tight c.if-is_none.ensures _ _ c.descend-grade.ensures c.in_ok-laxity.ensures)

pub returns : goal.returns
returns c A =
    let p = c.args.b.now in
    let ticket = subst (λ x. LowestOf (in_use p.head.count) p.keys p.tickets x c.lowest_ticket-ticket.result) c.key.ensures c.lowest_ticket-ticket.ensures in
    job_found (with_others p p.tickets A) (c.requires.counted p.tickets A) _ c.requires.tight c.if-is_none.ensures _ _ c.descend-grade.ensures c.in_ok-laxity.ensures _ ticket

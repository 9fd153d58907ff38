-- The prefix with 0 behind it, or with 1.
use Rattle.std.proofs.Common.{◌≡◌, ◌*◌, sym, subst, arith}
use Rattle.search.specs.Inner.Answers.{NextStart}
use Rattle.search.proofs.Start.{next_fits}
use Rattle.search.proofs.FromCounts.{next_is_zero, next_is_one}
use Rattle.search.proofs.descent.next_prefix.Goals as goal

pub returns-then-zero_next-clause-next_bit : goal.returns-then-zero_next-clause-next_bit
returns-then-zero_next-clause-next_bit c =
    let t = c.args.counts.now in
    let p = c.args.prefix in
    let e : p.bits * 2 ≡ c.with.result.bits = omega (arith, c.with.ensures.bits) in
    subst (NextStart t p.bits p.left) e (next_is_zero t p.bits p.left c.requires c.zero_next.result c.zero_next.ensures c.if-zero_next.true)

pub returns-else-zero_next-clause-next_bit : goal.returns-else-zero_next-clause-next_bit
returns-else-zero_next-clause-next_bit c =
    let t = c.args.counts.now in
    let p = c.args.prefix in
    subst (NextStart t p.bits p.left) (sym c.with-else-zero_next.ensures.bits)
    (next_is_one t p.bits p.left c.requires c.zero_next.result c.zero_next.ensures c.if-zero_next.false)

pub returns-else-zero_next-clause-within : goal.returns-else-zero_next-clause-within
returns-else-zero_next-clause-within c =
    let e = c.with-else-zero_next.ensures in
    rw (e.bits, e.left) (omega (arith, next_fits c.args.prefix.left c.args.prefix.bits c.requires))

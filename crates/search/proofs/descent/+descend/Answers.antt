-- With no bits left the bits are the grade; else it goes on with the next bit.
use Rattle.std.proofs.Common.{◌+◌, ◌*◌, ◌^◌, ◌≤◌, subst, arith}
use Rattle.search.specs.Inner.Answers.{DescentOf}
use Rattle.search.proofs.FromCounts.{descent_ends, descent_on}
use Rattle.search.proofs.descent.+descend.Goals as goal

pub returns-then-prefix-eq0 : goal.returns-then-prefix-eq0
returns-then-prefix-eq0 t c =
    let a = c.args in
    (descent_ends a.counts.now a.prefix.bits a.prefix.left c.if-prefix-eq0.true, rw c.if-prefix-eq0.true (omega arith))

pub returns : goal.returns
returns t c =
    let k = c.args.counts.now in
    let p = c.args.prefix in
    let n = c.next_prefix in
    let e = n.ensures in
    let within = subst (λ m. (n.result.bits + 1) * 2 ^ m ≤ (p.bits + 1) * 2 ^ p.left) e.left e.within in
    let on = subst (λ m. DescentOf k n.result.bits m c.descend.result) e.left c.descend.ensures.0 in
    (descent_on k p.bits p.left (omega arith) n.result.bits c.descend.result within e.next_bit on, omega (arith, e.within, c.descend.ensures.1))

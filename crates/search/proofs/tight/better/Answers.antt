-- The new laxity if somebody has it and its excess is better.
use Rattle.std.proofs.Common.{◌+◌, sym, ◌∙◌, arith}
use Rattle.board.specs.Limits.{longest_laxity}
use Rattle.search.proofs.BestLaxity.{with_none, with_new, with_old}
use Rattle.search.proofs.ExcessIs.{excess_is}
use Rattle.search.proofs.tight.better.Goals as goal

pub returns-then-here-eq0 : goal.returns-then-here-eq0
returns-then-here-eq0 c = let a = c.args in with_none a.best a.before a.here a.k c.if-here-eq0.true

pub returns-then-is_better : goal.returns-then-is_better
unfolding longest_laxity
returns-then-is_better c =
    let a = c.args in
    let e = excess_is (a.k + 1) (a.before + a.here) (omega arith) (omega arith) in
    with_new a.best a.before a.here a.k c.if-here-eq0.false e (sym c.is_better.ensures ∙ c.if-is_better.true)

pub returns : goal.returns
unfolding longest_laxity
returns c =
    let a = c.args in
    let e = excess_is (a.k + 1) (a.before + a.here) (omega arith) (omega arith) in
    with_old a.best a.before a.here a.k c.if-here-eq0.false e (sym c.is_better.ensures ∙ c.if-is_better.false)

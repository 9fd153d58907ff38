-- No kind has the number.
use native.Mathlib.Omega.{arith}
use Rattle.std.proofs.lemmas.Result.{err_from_is_err_and}
use Rattle.tally.proofs.Answers.{no_such_kind}
use Rattle.tally.proofs.count_into.Goals as goal

pub returns-in_err-try_from : goal.returns-in_err-try_from
returns-in_err-try_from c =
    let p = err_from_is_err_and c.from_residual.result c.from_residual.ensures.1 in
    let h = c.in_err-try_from.ensures in
    rw (p.1, p.2, h.0) (no_such_kind c.args.tally.now c.args.kind c.args.grade (omega (arith, h.1)))

-- The rows, and then the board without the job.
use Rattle.std.proofs.lemmas.Result.{err_from_is_err_and}
use Rattle.withdrawing.proofs.withdraw_by_rows.Goals as goal

pub returns-in_err-grade : goal.returns-in_err-grade
returns-in_err-grade c =
    let p = err_from_is_err_and c.from_residual.result c.from_residual.ensures.1 in
    rw (p.1, p.2) c.in_err-grade.ensures

pub returns : goal.returns
returns c = rw c.without.ensures c.in_ok-grade.ensures

use Rattle.std.proofs.lemmas.Result.{err_from_is_err_and}
use Rattle.hindsight.proofs.Answering.{refused_answer, planned_answer}
use Rattle.hindsight.proofs.plan.Goals as goal

pub returns-in_err-listed : goal.returns-in_err-listed
returns-in_err-listed c =
    let p = err_from_is_err_and c.from_residual.result c.from_residual.ensures.1 in
    rw (p.1, p.2) (refused_answer c.args.d.now c.in_err-listed.field-0.0 c.in_err-listed.ensures.0)

pub returns : goal.returns
returns c = rw (c.lay_out.ensures, c.choose-chosen.ensures) (planned_answer c.args.d.now c.in_ok-listed.listed.windows.now c.in_ok-listed.ensures.1 c.in_ok-listed.ensures.0)

-- Rows 3 and 17, and the job found.
use Rattle.std.proofs.Common.{◌≡◌, sym, ◌∙◌}
use borrow.Author.Tests.{eqb-true, eqb-false}
use Rattle.std.proofs.lemmas.Result.{err_from_is_err_and}
use Rattle.board.specs.declared.refusal.Refusal.TheVariants.{NotToWithdraw}
use Rattle.board.specs.Limits.{last_slot}
use Rattle.board.specs.Held.{job_in, used, held}
use Rattle.withdrawing.proofs.Sought.{not_sought, sought_is}
use Rattle.withdrawing.proofs.Rows.{book_ended, not_there, of_this_slot, taken_off}
use Rattle.withdrawing.proofs.to_withdraw.Goals as goal

pub returns-then-b : goal.returns-then-b
unfolding last_slot
returns-then-b c = let a = c.args in book_ended a.b.now a.ticket c.if-b.true

pub returns-in_err-job : goal.returns-in_err-job
unfolding last_slot held
returns-in_err-job c =
    let a = c.args in
    let p = err_from_is_err_and c.from_residual.result c.from_residual.ensures.1 in
    let e = c.in_err-job.ensures in
    let value = rw e.ok_part at e.value in
    let is : c.in_err-job.field-0.0 ≡ NotToWithdraw = cc in
    rw (p.1, p.2, is) (not_there a.b.now a.ticket c.if-b.false (not_sought a.ticket (used a.b.now) (sym c.job_with.ensures ∙ e.ok_part)))

pub returns-then-eq : goal.returns-then-eq
unfolding last_slot job_in held
returns-then-eq c =
    let a = c.args in
    let j = c.in_ok-job.job in
    of_this_slot a.b.now a.ticket c.if-b.false (job_in j) (sought_is a.ticket (used a.b.now) j (sym c.job_with.ensures ∙ c.in_ok-job.ensures.ok_part))
    (eqb-true _ _ (sym c.if-eq.ensures))

pub returns : goal.returns
unfolding last_slot job_in held
returns c =
    let a = c.args in
    let j = c.in_ok-job.job in
    taken_off a.b.now a.ticket c.if-b.false (job_in j) (sought_is a.ticket (used a.b.now) j (sym c.job_with.ensures ∙ c.in_ok-job.ensures.ok_part))
    (eqb-false _ _ (sym c.if-eq.ensures))

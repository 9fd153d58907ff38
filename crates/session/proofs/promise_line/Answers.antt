-- Refused, or the laxity; the day is as it was.
use mathlib.Core.Path.{refl, subst, sym, ◌∙◌}
use Rattle.std.specs.Prelude.{Ok}
use Rattle.std.proofs.lemmas.Result.{err_from_is_err_and}
use Rattle.board.specs.declared.Laxity.{Laxity}
use Rattle.answers.specs.declared.Answer.TheVariants.{Promised as WaitPromised}
use Rattle.packing.specs.Inner.Packed.{board_of}
use Rattle.lines.specs.Session.{step_promise}
use Rattle.promising.specs.Inner.Seen.{promised_as}
use Rattle.promising.proofs.OnSound.{promise_on_sound, laxity_unwrapped}
use Rattle.session.specs.Inner.Days.{open_day, Did}
use Rattle.session.proofs.Steps.{promise_did}
use Rattle.session.proofs.Refused.{promise_err}
use Rattle.session.proofs.promise_line.Goals as goal

pub returns-in_err-laxity : goal.returns-in_err-laxity
returns-in_err-laxity c t s T G =
    let p = err_from_is_err_and c.from_residual.result c.from_residual.ensures.1 in
    rw (p.1, p.2) (promise_err _ c.args.board.now t s (c.in_err-laxity.ensures.promised _ _ ∙ promise_on_sound _ s) T G)

pub returns : goal.returns
returns c t s T G =
    let p = c.args.board.now in
    subst (λ (l : Laxity). Did (open_day p t) (step_promise (board_of p)) (record { day = open_day p t; answer = WaitPromised l; listed = 0 }) T G)
    (sym (c.unwrap_or.ensures ∙ laxity_unwrapped c.in_ok-laxity.laxity))
    (promise_did p t s (promised_as (Ok c.in_ok-laxity.laxity)) (c.in_ok-laxity.ensures.promised _ _ ∙ promise_on_sound _ s) refl T G)

-- An unsound board gets 2, a sound one goes on.
use mathlib.Core.Path.{sym, ap, ◌∙◌}
use Rattle.withdrawing.specs.Inner.AnyBoard.{withdrawn_of, left_by}
use Rattle.withdrawing.proofs.OnSound.{withdraw_on_sound, withdraw_unsound}
use Rattle.withdrawing.proofs.withdraw.Goals as goal

pub returns-then-not-is_sound : goal.returns-then-not-is_sound
returns-then-not-is_sound c =
    withdraw_unsound c.args.b c.args.ticket c.refused.result (sym c.is_sound.ensures ∙ c.if-not-is_sound.true) c.refused.ensures

pub returns-in-Ok : goal.returns-in-Ok
returns-in-Ok c =
    let e = c.to_withdraw.ensures ∙ withdraw_on_sound c.args.b c.args.ticket (sym c.is_sound.ensures ∙ c.if-not-is_sound.false) in
    rw c.without.ensures (rw c.in-Ok.is at e)

pub returns-in-Err : goal.returns-in-Err
returns-in-Err c =
    let e = c.to_withdraw.ensures ∙ withdraw_on_sound c.args.b c.args.ticket (sym c.is_sound.ensures ∙ c.if-not-is_sound.false) in
    rw c.refused-in-Err.ensures (rw c.in-Err.is at e)

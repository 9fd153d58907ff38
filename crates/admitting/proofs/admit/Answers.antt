-- An unsound board gets 2, a sound one goes on.
use mathlib.Core.Path.{sym, ◌∙◌}
use Rattle.admitting.proofs.OnSound.{admitting_on_sound, admitting_unsound}
use Rattle.admitting.proofs.admit.Goals as goal

pub returns-then-not-is_sound : goal.returns-then-not-is_sound
returns-then-not-is_sound c =
    let a = c.args in
    rw c.number.ensures (admitting_unsound a.b a.ticket a.laxity.0 a.grade (sym c.is_sound.ensures ∙ c.if-not-is_sound.true))

pub returns-in-Ok : goal.returns-in-Ok
returns-in-Ok c =
    let a = c.args in
    c.in-Ok.ensures ∙ admitting_on_sound a.b a.ticket a.laxity.0 a.grade (sym c.is_sound.ensures ∙ c.if-not-is_sound.false)

pub returns-in-Err : goal.returns-in-Err
returns-in-Err c =
    let a = c.args in
    rw c.number-in-Err.ensures
    (c.in-Err.ensures ∙ admitting_on_sound a.b a.ticket a.laxity.0 a.grade (sym c.is_sound.ensures ∙ c.if-not-is_sound.false))

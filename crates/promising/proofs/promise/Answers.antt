-- An unsound board gets 2; a sound one goes on, in arrays that hold it as it is.
use Rattle.std.proofs.Common.{sym, ◌∙◌}
use Rattle.promising.proofs.OnSound.{promise_unsound, promise_packed_sound, laxity_unwrapped}
use Rattle.promising.proofs.promise.Goals as goal

pub returns-then-not-is_sound : goal.returns-then-not-is_sound
returns-then-not-is_sound c = promise_unsound c.args.b c.refused.result (sym c.is_sound.ensures ∙ c.if-not-is_sound.true) c.refused.ensures

pub returns-in-Ok : goal.returns-in-Ok
returns-in-Ok c =
    rw (c.unwrap_or.ensures, laxity_unwrapped)
    (c.in-Ok.ensures.promised _ _ ∙ promise_packed_sound c.args.b _ (sym c.is_sound.ensures ∙ c.if-not-is_sound.false) c.unpack.ensures)

pub returns-in-Err : goal.returns-in-Err
returns-in-Err c =
    c.refused-in-Err.ensures ∙ c.in-Err.ensures.promised _ _ ∙ promise_packed_sound c.args.b _ (sym c.is_sound.ensures ∙ c.if-not-is_sound.false) c.unpack.ensures

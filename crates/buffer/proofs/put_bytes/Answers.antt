-- Where there is room, the bytes stand in the part of the buffer that is as long as they are.
use Rattle.std.proofs.Common.{refl, sym, ◌∙◌, arith}
use Rattle.buffer.proofs.Fitting.{put_fits}
use Rattle.buffer.proofs.Puts.{put_copied}
use Rattle.buffer.proofs.put_bytes.Goals as goal

pub returns : goal.returns
returns c =
    let a = c.args in
    put_fits _ (sym c.room_for.ensures ∙ c.if-not-room_for.false)
    (record { end = refl; within = omega arith; bytes = put_copied _ _ _ _ _ c.copy_from_slice.ensures.after (omega arith) })

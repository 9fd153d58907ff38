-- Refused, or the new board in arrays.
use mathlib.Core.Path.{refl, ◌∙◌}
use Rattle.std.proofs.lemmas.Result.{err_from_is_err_and}
use Rattle.std.specs.Prelude.{Ok}
use Rattle.board.specs.Open.{opened_as}
use Rattle.packing.proofs.OnSound.{packable_sound}
use Rattle.session.proofs.Steps.{opened_is_sound, open_did}
use Rattle.session.proofs.Refused.{open_err}
use Rattle.session.proofs.open_line.Goals as goal

pub returns-in_err-board : goal.returns-in_err-board
returns-in_err-board c g =
    let p = err_from_is_err_and c.from_residual.result c.from_residual.ensures.1 in
    rw (p.1, p.2) (open_err _ c.args.day.now c.args.depth g c.in_err-board.ensures)

pub returns : goal.returns
returns c g =
    let o = opened_as (Ok c.in_ok-board.board) in
    let e = c.in_ok-board.ensures in
    open_did c.args.day.now c.args.depth o e c.unpack.result refl
    (c.unpack.ensures ∙ packable_sound c.in_ok-board.board (opened_is_sound c.args.day.now c.args.depth o e refl))

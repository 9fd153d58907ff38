-- Refused, or the board without the job and one event more.
use mathlib.Core.Path.{◌≡◌, refl, ap, ◌∙◌}
use mathlib.Core.Bool.{true}
use Rattle.std.specs.Prelude.{Ok}
use Rattle.std.proofs.lemmas.Result.{err_from_is_err_and}
use Rattle.board.specs.declared.Board.{Board}
use Rattle.board.specs.Sound.{sound}
use Rattle.board.specs.Withdraw.{withdrawn}
use Rattle.packing.specs.Inner.Packed.{board_of}
use Rattle.packing.proofs.OnSound.{packable_sound}
use Rattle.withdrawing.specs.Inner.AnyBoard.{withdrawn_of, withdrawn_by_rows}
use Rattle.withdrawing.proofs.OnSound.{withdraw_on_sound}
use Rattle.session.proofs.Steps.{withdrawn_is_sound, withdraw_did}
use Rattle.session.proofs.Refused.{withdraw_err}
use Rattle.session.proofs.withdraw_line.Goals as goal
use Rattle.session.proofs.withdraw_line.Goals.{After-pack-held}

-- on the open board, which is sound, the call is 02's
on_open : (o : After-pack-held) → let a = o.args in sound (board_of a.board.now) ≡ true → withdrawn_by_rows o.pack-held.result a.ticket ≡ withdrawn (board_of a.board.now) a.ticket
on_open o s =
    ap (λ (b : Board). withdrawn_by_rows b o.args.ticket) o.pack-held.ensures ∙ withdraw_on_sound _ _ s

pub returns-in_err-grade : goal.returns-in_err-grade
returns-in_err-grade c s T G =
    let p = err_from_is_err_and c.from_residual.result c.from_residual.ensures.1 in
    rw (p.1, p.2) (withdraw_err _ c.args.board.now c.args.tally.now s c.withdraw_by_rows.new.b c.args.ticket (c.in_err-grade.ensures ∙ on_open (goal.at.returns-in_err-grade c).After-pack-held s) T G)

pub returns : goal.returns
returns c s T G =
    let a = c.args in
    let b = c.withdraw_by_rows.new.b in
    let w = withdrawn_of (Ok c.in_ok-grade.grade) b in
    let e = c.in_ok-grade.ensures ∙ on_open (goal.at.returns c).After-pack-held s in
    withdraw_did a.board.now a.tally.now s a.ticket w e c.unpack.result c.count_withdrawn.new.tally refl
    (c.unpack.ensures ∙ packable_sound b (withdrawn_is_sound a.board.now a.tally.now s a.ticket w e)) c.count_withdrawn.ensures T G

-- Refused, or the board with the job and one event more.
use mathlib.Core.Path.{◌≡◌, refl, sym, ap, ◌∙◌}
use mathlib.Core.Bool.{true}
use Prim.Native.Nat.{ℕ, min}
use native.Mathlib.Omega.{arith}
use Rattle.std.specs.Prelude.{Ok}
use Rattle.std.proofs.lemmas.Result.{err_from_is_err_and}
use Rattle.board.specs.Limits.{deepest}
use Rattle.board.specs.Sound.{sound}
use Rattle.board.proofs.Soundness.Apart.{facts}
use Rattle.lines.specs.Fields.{grade_meant}
use Rattle.lines.specs.Session.{step_admit}
use Rattle.fields.specs.Grades.{grade_of}
use Rattle.packing.specs.Inner.Packed.{board_in, board_of}
use Rattle.admitting.specs.Inner.Answer.{admitted_answer}
use Rattle.admitting.proofs.OnSound.{admitting_on_sound}
use Rattle.session.proofs.Steps.{did_as, admit_did}
use Rattle.session.proofs.Refused.{admit_err}
use Rattle.session.proofs.admit_line.Goals as goal
use Rattle.session.proofs.admit_line.Goals.{After-grade_meant-meant}

-- on the open board, which is sound, the step is one with the grade that is meant
step_meant : (m : After-grade_meant-meant) → let a = m.args in let b = board_of a.board.now in
    sound b ≡ true → step_admit b a.ticket a.laxity.0 (grade_meant b.depth (grade_of a.grade)) ≡ step_admit b a.ticket a.laxity.0 m.grade_meant-meant.result
unfolding board_in
step_meant m s =
    let a = m.args in
    let b = board_of a.board.now in
    let depth : min b.depth deepest ≡ b.depth = omega (arith, (facts b s).shallow) in
    ap (step_admit b a.ticket a.laxity.0) (sym (m.grade_meant-meant.ensures ∙ ap (λ (k : ℕ). grade_meant k (grade_of a.grade)) depth))

pub returns-in_err-last : goal.returns-in_err-last
returns-in_err-last c s T G =
    let p = err_from_is_err_and c.from_residual.result c.from_residual.ensures.1 in
    let a = c.args in
    did_as (step_meant (goal.at.returns-in_err-last c).After-grade_meant-meant s)
    (rw (p.1, p.2) (admit_err _ a.board.now c.admit_packed.new.b a.tally.now s _ _ _ (c.in_err-last.ensures ∙ admitting_on_sound _ _ _ _ s) T G))

pub returns : goal.returns
returns c s T G =
    let a = c.args in
    let q = c.admit_packed.new.b in
    did_as (step_meant (goal.at.returns c).After-grade_meant-meant s)
    (admit_did a.board.now a.tally.now s _ _ _ (admitted_answer (Ok c.in_ok-last.last) (board_of q)) (c.in_ok-last.ensures ∙ admitting_on_sound _ _ _ _ s)
    q c.count_admitted.new.tally refl refl c.count_admitted.ensures T G)

-- Refused in reading, or what the line asks for.
use mathlib.Core.Path.{◌≡◌, refl, ap, ◌∙◌}
use mathlib.Core.List.{List}
use mathlib.Core.Option.{some}
use Prim.Native.Nat.{ℕ}
use Rattle.std.specs.Prelude.{Some}
use Rattle.std.proofs.lemmas.Result.{err_from_is_err_and}
use Rattle.lines.specs.Session.{step_open, step_request, when_open, step}
use Rattle.lines.proofs.InTurn.{needs_open}
use Rattle.packing.specs.declared.Packed.{Packed}
use Rattle.packing.specs.Inner.Packed.{board_of}
use Rattle.requests.specs.declared.Asked.{Asked}
use Rattle.requests.specs.declared.Asked.TheVariants.{Open}
use Rattle.requests.specs.Answers.{request_of}
use Rattle.session.specs.Inner.Days.{session_of, open_day, SteppedDay, Did}
use Rattle.session.proofs.Steps.{did_as, refusal_did}
use Rattle.session.proofs.Requests.{line_refused, line_asks, never_without, on_open, good_open}
use Rattle.session.proofs.do_line.Goals as goal
use Rattle.session.proofs.do_line.Goals.{In_ok-asked, in_default-None-via-in-Admit+in-None, in_default-None-via-in-Close+in-None, in_default-None-via-in-Promise+in-None, in_default-None-via-in-Withdraw+in-None}

-- a line that opens is the step of an opening
opens : (o : In_ok-asked) (depth : ℕ) → o.in_ok-asked.asked ≡ Open depth
    → step (session_of o.args.day.now).board o.args.line.now ≡ step_open (session_of o.args.day.now).board depth
unfolding step_request
opens o depth is =
    let d = o.args.day.now in
    line_asks d o.args.line.now _ o.is_some.ensures o.in_ok-asked.asked o.in_ok-asked.ensures ∙ ap (λ a. step_request (session_of d).board (request_of a)) is

-- a step of what the line asks for, done on the open board, is the line's
at_open : (o : In_ok-asked) (p : Packed) → o.args.day.now.board ≡ Some p → (b : Asked) → o.in_ok-asked.asked ≡ b → {r : SteppedDay} {T G : List ℕ}
    → Did (open_day p o.args.day.now.tally) (step_request (some (board_of p)) (request_of b)) r T G → Did o.args.day.now (step (session_of o.args.day.now).board o.args.line.now) r T G
at_open o p is b ab did =
    on_open o.args.day.now o.args.line.now _ o.is_some.ensures o.in_ok-asked.asked o.in_ok-asked.ensures p is b ab _ refl did

pub returns-in_err-asked : goal.returns-in_err-asked
returns-in_err-asked c g room =
    let p = err_from_is_err_and c.from_residual.result c.from_residual.ensures.1 in
    let d = c.args.day.now in
    rw (p.1, p.2) (did_as (line_refused d c.args.line.now _ c.is_some.ensures _ c.in_err-asked.ensures) (refusal_did d d _ g refl _ _))

pub returns-in_err-answer-in-Open-default : goal.returns-in_err-answer-in-Open-default
returns-in_err-answer-in-Open-default c g room =
    let p = err_from_is_err_and c.from_residual-in_err-answer-in-Open-default.result c.from_residual-in_err-answer-in-Open-default.ensures.1 in
    rw (p.1, p.2) (did_as (opens (goal.at.returns-in_err-answer-in-Open-default c).In_ok-asked _ c.in-Open-default.is-0) (c.in_err-answer-in-Open-default.ensures g _ _))

pub returns-in_ok-answer-in-Open-default : goal.returns-in_ok-answer-in-Open-default
returns-in_ok-answer-in-Open-default c g room =
    did_as (opens (goal.at.returns-in_ok-answer-in-Open-default c).In_ok-asked _ c.in-Open-default.is-0) (c.in_ok-answer-in-Open-default.ensures g _ _)

pub returns-in-Close-Some : goal.returns-in-Close-Some
unfolding step_request when_open
returns-in-Close-Some c g room =
    let w = c.in-Close-Some in
    at_open (goal.at.returns-in-Close-Some c).In_ok-asked w.board w.is-1 _ w.is-0 (c.close_line.ensures (good_open c.args.day.now w.board g w.is-1) room)

pub returns-in_err-answer-in-Admit-Some : goal.returns-in_err-answer-in-Admit-Some
unfolding step_request when_open
returns-in_err-answer-in-Admit-Some c g room =
    let p = err_from_is_err_and c.from_residual-in_err-answer-in-Admit-Some.result c.from_residual-in_err-answer-in-Admit-Some.ensures.1 in
    let w = c.in-Admit-Some in
    rw (p.1, p.2) (at_open (goal.at.returns-in_err-answer-in-Admit-Some c).In_ok-asked w.board w.is-1 _ w.is-0 (c.in_err-answer-in-Admit-Some.ensures (good_open c.args.day.now w.board g w.is-1) _ _))

pub returns-in_ok-answer-in-Admit-Some : goal.returns-in_ok-answer-in-Admit-Some
unfolding step_request when_open
returns-in_ok-answer-in-Admit-Some c g room =
    let w = c.in-Admit-Some in
    at_open (goal.at.returns-in_ok-answer-in-Admit-Some c).In_ok-asked w.board w.is-1 _ w.is-0 (c.in_ok-answer-in-Admit-Some.ensures (good_open c.args.day.now w.board g w.is-1) _ _)

pub returns-in_err-answer-in-Promise-Some : goal.returns-in_err-answer-in-Promise-Some
unfolding step_request when_open
returns-in_err-answer-in-Promise-Some c g room =
    let p = err_from_is_err_and c.from_residual-in_err-answer-in-Promise-Some.result c.from_residual-in_err-answer-in-Promise-Some.ensures.1 in
    let w = c.in-Promise-Some in
    rw (p.1, p.2) (at_open (goal.at.returns-in_err-answer-in-Promise-Some c).In_ok-asked w.board w.is-1 _ w.is-0 (c.in_err-answer-in-Promise-Some.ensures _ (good_open c.args.day.now w.board g w.is-1) _ _))

pub returns-in_ok-answer-in-Promise-Some : goal.returns-in_ok-answer-in-Promise-Some
unfolding step_request when_open
returns-in_ok-answer-in-Promise-Some c g room =
    let w = c.in-Promise-Some in
    at_open (goal.at.returns-in_ok-answer-in-Promise-Some c).In_ok-asked w.board w.is-1 _ w.is-0 (c.in_ok-answer-in-Promise-Some.ensures _ (good_open c.args.day.now w.board g w.is-1) _ _)

pub returns-in_err-answer-in-Withdraw-Some : goal.returns-in_err-answer-in-Withdraw-Some
unfolding step_request when_open
returns-in_err-answer-in-Withdraw-Some c g room =
    let p = err_from_is_err_and c.from_residual-in_err-answer-in-Withdraw-Some.result c.from_residual-in_err-answer-in-Withdraw-Some.ensures.1 in
    let w = c.in-Withdraw-Some in
    rw (p.1, p.2) (at_open (goal.at.returns-in_err-answer-in-Withdraw-Some c).In_ok-asked w.board w.is-1 _ w.is-0 (c.in_err-answer-in-Withdraw-Some.ensures (good_open c.args.day.now w.board g w.is-1) _ _))

pub returns-in_ok-answer-in-Withdraw-Some : goal.returns-in_ok-answer-in-Withdraw-Some
unfolding step_request when_open
returns-in_ok-answer-in-Withdraw-Some c g room =
    let w = c.in-Withdraw-Some in
    at_open (goal.at.returns-in_ok-answer-in-Withdraw-Some c).In_ok-asked w.board w.is-1 _ w.is-0 (c.in_ok-answer-in-Withdraw-Some.ensures (good_open c.args.day.now w.board g w.is-1) _ _)

pub unreachable-requires : goal.unreachable-requires
unfolding needs_open
unreachable-requires c =
    let never = never_without c.args.day.now c.args.line.now _ c.is_some.ensures c.in_ok-asked.asked c.in_ok-asked.ensures in
    elim c.in_default-None.branch [
      | in_default-None-via-in-Admit+in-None w ↦ never _ w.in_default-None.is-0 refl w.in_default-None.is-1
      | in_default-None-via-in-Close+in-None w ↦ never _ w.in_default-None.is-0 refl w.in_default-None.is-1
      | in_default-None-via-in-Promise+in-None w ↦ never _ w.in_default-None.is-0 refl w.in_default-None.is-1
      | in_default-None-via-in-Withdraw+in-None w ↦ never _ w.in_default-None.is-0 refl w.in_default-None.is-1
    ]

-- `answer_line`: the step is done, and its answer is printed.
use native.Mathlib.Omega.{arith}
use Rattle.board.specs.Limits.{places_held}
use Rattle.lines.specs.Session.{step}
use Rattle.session.specs.Inner.Days.{session_of, done, Did}
use Rattle.running.proofs.Stepping.Answering.{answered_by}
use Rattle.running.proofs.answering.answer_line.Goals as goal
use Rattle.running.proofs.answering.answer_line.Goals.{After-step_line-stepped}

-- the lists have an entry for every place
did : (c : After-step_line-stepped) → let l = c.step_line-stepped in
    Did c.args.day.now (step (session_of c.args.day.now).board c.args.line.now) (done l.result l.new.day) l.new.expired l.new.grades
unfolding places_held
did c = c.step_line-stepped.ensures c.requires.good_day (omega arith, omega arith, omega arith)

pub shared_ref_as_front-given_up : goal.shared_ref_as_front-given_up
unfolding places_held
shared_ref_as_front-given_up c = omega (arith, (did (goal.at.shared_ref_as_front-given_up c).After-step_line-stepped).few)

pub returns : goal.returns
unfolding places_held
returns c =
    let o = (goal.at.returns c).After-step_line-stepped in
    answered_by c.args.day.now c.args.printer.now c.args.line.now c.args.out.now c.args.at (done c.step_line-stepped.result c.step_line-stepped.new.day) _ _ (did o)
    (omega (arith, c.step_line-stepped.auto.expired)) (omega (arith, c.step_line-stepped.auto.grades)) c.print_by.new.printer c.print_by.result _
    c.requires.has_room c.requires.few_lines c.print_by.ensures

-- Each answer has its line, a closing its lines.
use Rattle.std.proofs.Common.{refl, arith}
use Rattle.lines.specs.Bytes.{letter_A, letter_D, letter_Q, letter_R, letter_W}
use Rattle.lines.specs.Output.{printed_answer}
use Rattle.answers.specs.Printed.{answer_of}
use Rattle.buffer.proofs.Pieces.{put_as}
use Rattle.answers.proofs.Lines.{said, answered}
use Rattle.answers.proofs.print_fitting.Goals as goal

pub returns-in-Refused : goal.returns-in-Refused
unfolding printed_answer answer_of letter_R
returns-in-Refused c = answered _ _ (omega arith) _ _ _ c.in-Refused.is refl (omega arith) c.print_at.ensures

pub returns-in-Opened : goal.returns-in-Opened
unfolding printed_answer answer_of letter_D
returns-in-Opened c = answered _ _ (omega arith) _ _ _ c.in-Opened.is refl (omega arith) c.print_at-in-Opened.ensures

pub returns-in-Admitted : goal.returns-in-Admitted
unfolding printed_answer answer_of letter_A
returns-in-Admitted c = answered _ _ (omega arith) _ _ _ c.in-Admitted.is refl (omega arith) c.print_at-in-Admitted.ensures

pub returns-in-Promised : goal.returns-in-Promised
unfolding printed_answer answer_of letter_Q
returns-in-Promised c = answered _ _ (omega arith) _ _ _ c.in-Promised.is refl (omega arith) c.print_at-in-Promised.ensures

pub returns-in-Withdrawn : goal.returns-in-Withdrawn
unfolding printed_answer answer_of letter_W
returns-in-Withdrawn c = answered _ _ (omega arith) _ _ _ c.in-Withdrawn.is refl (omega arith) c.print_at-in-Withdrawn.ensures

pub returns-in-Closed : goal.returns-in-Closed
unfolding printed_answer answer_of
returns-in-Closed c = put_as (said _ _ _ c.in-Closed.is) c.print_closing.ensures

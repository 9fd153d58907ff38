-- `print_lines`: the answer's lines, and the next line's number.
use Rattle.std.proofs.Common.{Bool, cond, length, ap, ◌∙◌}
use Rattle.answers.specs.Printed.{answer_fits}
use Rattle.printers.specs.Prints.{next_number}
use Rattle.printers.proofs.PrintedLines.{printed_lines}
use Rattle.printers.proofs.print_lines.Goals as goal

pub returns : goal.returns
returns c k e h =
    let a = c.args in
    let fits = answer_fits (length a.given_up.tickets.now) (length a.given_up.grades.now) a.at (length a.out.now) in
    printed_lines k a.answer a.given_up.tickets.now a.given_up.grades.now e fits c.number_after.result
    (rw h (c.number_after.ensures ∙ ap (λ (b : Bool). cond b (next_number a.number.now) a.number.now) c.answer_fits-fits.ensures))
    (rw h c.print_answer-end.ensures)

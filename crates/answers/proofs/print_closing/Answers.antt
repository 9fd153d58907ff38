-- The B line, and behind it the G lines.
use Rattle.std.proofs.Common.{[], ◌∷◌, length, arith}
use Rattle.board.specs.Limits.{places_held}
use Rattle.lines.specs.Bytes.{letter_B}
use Rattle.lines.specs.Output.{printed_closing}
use Rattle.printing.specs.Lines.{room}
use Rattle.answers.specs.Printed.{answer_room}
use Rattle.answers.proofs.Lines.{line_within}
use Rattle.answers.proofs.Jobs.{jobs_length}
use Rattle.buffer.proofs.Pieces.{put_behind, put_fewer}
use Rattle.answers.proofs.print_closing.Goals as goal

pub returns : goal.returns
unfolding answer_room places_held room letter_B printed_closing
returns c =
    let k = c.args.closing in
    let jobs = c.args.given_up in
    let n = jobs_length jobs.tickets.now jobs.grades.now c.requires.1 in
    let line = line_within 66 (k.slot.0 ∷ k.ticket ∷ k.grade ∷ length jobs.tickets.now ∷ k.shortfall ∷ []) (omega arith) (omega (arith, c.requires.2)) c.print_at-mid.ensures in
    let both = put_behind (omega (arith, c.requires.2)) line c.print_given_up.ensures in
    rw n (put_fewer both (omega (arith, c.requires.0)))

-- `print_grades`: with the lines that are left put behind, the tally is the whole one.
use Rattle.std.proofs.Common.{[], ◌∷◌, arith}
use Rattle.board.specs.Events.{admitted_kind, baked_kind, given_up_kind, withdrawn_kind}
use Rattle.lines.specs.Bytes.{letter_T}
use Rattle.lines.specs.Output.{tally_line}
use Rattle.printing.specs.Lines.{line_numbers, room}
use Rattle.printing.proofs.Lines.{line_put}
use Rattle.tallies.specs.Room.{tally_room}
use Rattle.buffer.proofs.Pieces.{fewer_left, none_left}
use Rattle.tallies.proofs.Left.{tally_next, tally_done}
use Rattle.tallies.proofs.print_grades.Goals as goal

pub loop-g-preserved : goal.loop-g-preserved
unfolding letter_T line_numbers room tally_room tally_line admitted_kind baked_kind given_up_kind withdrawn_kind
loop-g-preserved c =
    let a = c.args in
    let l = c.loop-g in
    let numbers = l.g ∷ c.count_of.result ∷ c.count_of-in-loop-g.result ∷ c.count_of-in-loop-g-2.result ∷ c.count_of-in-loop-g-3.result ∷ [] in
    let line = line_put 84 numbers (omega arith) (omega arith) c.print_at-end.ensures in
    let p = rw (c.count_of.ensures, c.count_of-in-loop-g.ensures, c.count_of-in-loop-g-2.ensures, c.count_of-in-loop-g-3.ensures) at line in
    let n = tally_next a.grades l.g a.t c.loop-g-test.true in
    (omega (arith, p.within), omega arith, fewer_left (tally_line l.g a.t) _ _ _ _ _ (rw n at l.invariant.2) (omega arith) p.end p.bytes)

pub returns : goal.returns
unfolding room tally_room
returns c =
    let a = c.args in
    let l = c.loop-g in
    let n = none_left _ _ (rw (tally_done a.grades l.g a.t c.loop-g-test.false) at l.invariant.2) in
    record { end = n.0; within = omega arith; bytes = n.1 }

-- The lines that are left come behind those printed.
use Rattle.std.proofs.Common.{[], ◌∷◌, length, arith}
use Rattle.std.proofs.lemmas.List.{length_push}
use Rattle.std.proofs.lemmas.Slice.Zip.{zip_turn, zip_end}
use Rattle.lines.specs.Bytes.{letter_G}
use Rattle.printing.specs.Lines.{room}
use Rattle.buffer.proofs.Pieces.{fewer_left, none_left}
use Rattle.answers.proofs.Lines.{line_within}
use Rattle.answers.proofs.Jobs.{next_line, no_line}
use Rattle.answers.proofs.print_given_up.Goals as goal

pub loop-ticket-preserved : goal.loop-ticket-preserved
unfolding letter_G room
loop-ticket-preserved c =
    let a = c.args in
    let l = c.loop-ticket in
    let T = a.given_up.tickets.now in
    let G = a.given_up.grades.now in
    let turn = zip_turn T G l.yielded c.into_iter-ticket-iterator.result l.ticket-iterator c.next.new.self _ (cc) (cc) l.yielded_by _ c.in-Some.is c.next.ensures.steps in
    let n = length_push l.yielded (c.in-Some.ticket, c.in-Some.grade) in
    let e = next_line a.slot.0 T G (length l.yielded) turn.0 turn.1 in
    let line = line_within 71 (a.slot.0 ∷ c.in-Some.ticket.now ∷ c.in-Some.grade.now ∷ []) (omega arith) (omega arith) c.print_at-end.ensures in
    let same = rw (turn.2 0, turn.3 0) at line in
    rw n (omega (arith, same.within), omega arith, fewer_left _ _ _ _ _ _ (rw e at l.invariant.2) (omega arith) same.end same.bytes)

pub returns : goal.returns
unfolding room
returns c =
    let a = c.args in
    let l = c.loop-ticket in
    let T = a.given_up.tickets.now in
    let G = a.given_up.grades.now in
    let all = zip_end T G l.yielded c.into_iter-ticket-iterator.result l.ticket-iterator c.next.new.self _ (cc) (cc) l.yielded_by c.in-None.is c.next.ensures.steps in
    let n = none_left _ _ (rw (no_line a.slot.0 T G (length l.yielded) (omega arith)) at l.invariant.2) in
    record { end = n.0; within = omega arith; bytes = n.1 }

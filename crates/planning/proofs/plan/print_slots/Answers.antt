-- With the lines that are left put behind, the print is the whole one.
use mathlib.Core.List.{[], ◌∷◌}
use mathlib.Core.Path.{◌∙◌}
use Prim.Native.Nat.{◌+◌}
use native.Mathlib.Omega.{arith}
use lib.ListN.{get_or}
use Rattle.lines.specs.Bytes.{letter_H}
use Rattle.printing.specs.Lines.{line_numbers, room}
use Rattle.printing.proofs.Lines.{line_put}
use Rattle.buffer.proofs.Pieces.{fewer_left, none_left}
use Rattle.planning.proofs.Slots.{slots_next, slots_done}
use Rattle.planning.proofs.plan.print_slots.Goals as goal

pub loop-i-preserved : goal.loop-i-preserved
unfolding letter_H line_numbers room
loop-i-preserved c =
    let p = c.print_at-end in
    let l = c.loop-i in
    let slots = c.args.slots.now in
    let n = slots_next slots l.i c.loop-i-test.true in
    let q = line_put letter_H ((l.i + 1) ∷ get_or slots l.i 0 ∷ []) (omega arith) (omega (arith, c.requires.0, c.requires.1, l.invariant.0, l.invariant.1)) p.ensures in (
      omega (arith, q.within, l.invariant.0),
      p.auto.out ∙ l.invariant.1,
      fewer_left _ _ l.out l.end _ _ (rw n at l.invariant.2) (omega arith) q.end q.bytes,
    )

pub returns : goal.returns
unfolding room
returns c =
    let l = c.loop-i in
    let n = none_left _ _ (rw (slots_done c.args.slots.now l.i c.loop-i-test.false) at l.invariant.2) in
    record { end = n.0; within = omega (arith, c.requires.0); bytes = n.1 }

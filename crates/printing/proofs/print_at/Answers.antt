-- `print_at`: with the numbers that are left put behind, the line is the whole one.
use Rattle.std.proofs.Common.{[], ◌+◌, ◌<◌, ◌≤◌, length, get_or, take, length-set, length-take, leb-true, le-leb, sym, ap, ◌∙◌, arith}
use Rattle.lists.proofs.Filling.{take_least}
use Rattle.lines.specs.Bytes.{comma, line_end}
use Rattle.lines.specs.Printing.{decimal, printed}
use Rattle.printing.specs.Lines.{line_numbers, room}
use Rattle.printing.proofs.Commas.{next_number, no_number}
use Rattle.buffer.proofs.Fitting.{put_fits}
use Rattle.buffer.proofs.Pieces.{put_as, fewer_left, byte_fewer, none_left}
use Rattle.buffer.proofs.Puts.{put_first}
use Rattle.printing.proofs.print_at.Goals as goal

pub loop-n-preserved : goal.loop-n-preserved
unfolding comma line_numbers room
loop-n-preserved c =
    let a = c.args in
    let l = c.loop-n in
    let ns = take c.min-count.result a.numbers.now in
    let few = length-take c.min-count.result a.numbers.now in
    let p = c.put_number-end in
    let e = next_number ns l.n-index (omega arith) in
    let h : l.end < length l.out = omega arith in (
      omega (arith, p.ensures.within),
      l.invariant.1,
      p.auto.out ∙ simp length-set (simp length-set at l.invariant.2),
      fewer_left (decimal (get_or ns l.n-index 0)) _ _ _ _ _ (byte_fewer 44 _ _ _ (rw e at l.invariant.3) h) (simp length-set (omega arith)) p.ensures.end
          p.ensures.bytes,
    )

pub returns : goal.returns
unfolding line_end line_numbers room printed
returns c =
    let a = c.args in
    let there : c.args.at + room ≤ length c.args.out.now = leb-true _ _ (sym c.room_for.ensures ∙ c.if-not-room_for.false) in
    let l = c.loop-n in
    let ns = take c.min-count.result a.numbers.now in
    let few = length-take c.min-count.result a.numbers.now in
    let e = no_number ns l.n-index (omega arith) in
    let n = none_left _ _ (byte_fewer 10 [] _ _ (rw e at l.invariant.3) (omega arith)) in
    let same = take_least c.min-count.result line_numbers a.numbers.now (omega arith) in
    put_fits _ (le-leb _ _ there)
    (put_as (ap (printed a.letter) (sym same))
    (record { end = omega (arith, n.0); within = omega arith; bytes = n.1 ∙ put_first a.out.now a.at a.letter _ (omega arith) }))

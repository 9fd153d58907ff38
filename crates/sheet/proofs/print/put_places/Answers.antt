-- The lines that are left come behind those put.
use mathlib.Core.List.{map}
use Prim.Native.Nat.{◌≤◌}
use native.Mathlib.Numerals.{add-one}
use native.Mathlib.Omega.{arith}
use lib.ListN.{length, get_or}
use Rattle.lines.specs.Sheet.{line_columns, page_slots, slot_line, blank_line}
use Rattle.buffer.proofs.Pieces.{fewer_left, none_left}
use Rattle.page.specs.Pages.{page_of}
use Rattle.sheet.specs.Inner.Lines.{line_length}
use Rattle.page.proofs.OnPage.{closings_counted, closings_first}
use Rattle.sheet.proofs.SlotLines.{next_line, no_line}
use Rattle.sheet.proofs.print.put_places.Goals as goal

pub loop-i-preserved : goal.loop-i-preserved
unfolding page_slots line_length line_columns
loop-i-preserved c =
    let p = c.args.p.now in
    let few_closings : length (page_of p) ≤ page_slots = omega (arith, closings_counted p) in
    let fs = page_of p in
    let i = c.loop-i.i in
    let left = rw (next_line fs few_closings i (omega arith)) at c.loop-i.invariant.2 in
    let q = rw (closings_first p c.closing_count-count.result c.closing_count-count.ensures.0) at c.put_place-end.ensures in
    (omega (arith, q.within), omega arith, rw add-one (fewer_left (get_or (map slot_line fs) i blank_line) _ _ _ _ _ left (omega arith) q.end q.bytes))

pub returns : goal.returns
unfolding page_slots line_length line_columns
returns c =
    let p = c.args.p.now in
    let few_closings : length (page_of p) ≤ page_slots = omega (arith, closings_counted p) in
    let n = none_left _ _ (rw (no_line (page_of p) few_closings c.loop-i.i (omega arith)) at c.loop-i.invariant.2) in
    record { end = n.0; within = omega arith; bytes = n.1 }

use mathlib.Core.Path.{◌≡◌}
use mathlib.Core.List.{flatten}
use Prim.Native.Nat.{◌+◌, ◌*◌, ◌≤◌}
use lib.ListN.{length, drop}
use Rattle.buffer.proofs.Pieces.{Left}
use Rattle.page.specs.Pages.{page_of}
use Rattle.sheet.specs.Inner.Lines.{line_length, slot_lines}
use Rattle.sheet.proofs.print.put_places.Given as goal

abbrev pub invariant-loop-i : goal.invariant-loop-i
invariant-loop-i l =
    let fs = page_of l.p in
    (l.end ≤ l.at + l.i * line_length)
    × (length l.out ≡ length l.initial.out)
    × Left (flatten (slot_lines fs)) l.initial.out l.at (flatten (drop l.i (slot_lines fs))) l.out l.end

use mathlib.Core.Path.{◌≡◌}
use Prim.Native.Nat.{◌+◌, ◌≤◌}
use lib.Dec.{ltb}
use lib.ListN.{length}
use Rattle.lines.specs.Printing.{decimal}
use Rattle.lines.specs.Sheet.{to_right}
use Rattle.buffer.specs.Puts.{put}
use Rattle.columns.specs.Inner.Digits.{digits_left}
use Rattle.columns.proofs.put_right.Given as goal

abbrev pub invariant-loop-left : goal.invariant-loop-left
invariant-loop-left l =
    (l.at + l.width ≤ length l.initial.out)
    × (length l.out ≡ length l.initial.out)
    × (put l.out l.at (to_right l.left (digits_left (ltb l.left l.width) l.rest)) ≡ put l.initial.out l.at (to_right l.width (decimal l.n)))

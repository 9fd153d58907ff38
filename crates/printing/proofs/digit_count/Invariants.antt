use Prim.Native.Nat.{◌+◌, ◌≤◌}
use mathlib.Core.Path.{◌≡◌}
use lib.ListN.{length}
use Rattle.lines.specs.Printing.{decimal}
use Rattle.printing.specs.Lines.{line_digits}
use Rattle.printing.proofs.digit_count.Given as goal

abbrev pub invariant-loop-left : goal.invariant-loop-left
invariant-loop-left l =
    (l.count + length (decimal l.left) ≡ length (decimal l.n) + 1) × (length (decimal l.n) ≤ line_digits)

abbrev pub decreases-loop-left : goal.decreases-loop-left
decreases-loop-left l = l.left

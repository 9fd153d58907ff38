use mathlib.Core.Path.{◌≡◌}
use Prim.Native.Nat.{◌+◌, ◌*◌, ◌≤◌}
use lib.ListN.{length, take, drop}
use Rattle.lines.specs.Printing.{with_commas}
use Rattle.printing.specs.Lines.{line_digits, room}
use Rattle.buffer.proofs.Pieces.{Left}
use Rattle.printing.proofs.print_at.Given as goal

abbrev pub invariant-loop-n : goal.invariant-loop-n
invariant-loop-n l =
    (l.end ≤ l.at + 1 + (1 + line_digits) * l.n-index)
    × (l.at + room ≤ length l.initial.out)
    × (length l.out ≡ length l.initial.out)
    × Left (with_commas (take l.count l.numbers)) l.initial.out (l.at + 1) (with_commas (drop l.n-index (take l.count l.numbers))) l.out l.end

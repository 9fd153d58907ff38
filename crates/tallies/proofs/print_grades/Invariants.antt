use mathlib.Core.Path.{◌≡◌}
use Prim.Native.Nat.{◌+◌, ◌*◌, ◌-◌, ◌≤◌}
use lib.ListN.{length}
use Rattle.lines.specs.Output.{printed_tally}
use Rattle.printing.specs.Lines.{room}
use Rattle.buffer.proofs.Pieces.{Left}
use Rattle.tallies.proofs.print_grades.Given as goal

abbrev pub invariant-loop-g : goal.invariant-loop-g
invariant-loop-g l =
    (l.end ≤ l.at + room * l.g)
    × (length l.out ≡ length l.initial.out)
    × Left (printed_tally l.grades 0 l.t) l.initial.out l.at (printed_tally (l.grades - l.g) l.g l.t) l.out l.end

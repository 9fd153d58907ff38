use mathlib.Core.Path.{◌≡◌}
use Prim.Native.Nat.{◌+◌, ◌*◌, ◌≤◌}
use lib.ListN.{length, drop}
use Rattle.printing.specs.Lines.{room}
use Rattle.lines.specs.Output.{printed_given_up}
use Rattle.answers.specs.Printed.{jobs_of}
use Rattle.buffer.proofs.Pieces.{Left}
use Rattle.answers.proofs.print_given_up.Given as goal

abbrev pub invariant-loop-ticket : goal.invariant-loop-ticket
invariant-loop-ticket l =
    let T = l.given_up.tickets.now in
    let G = l.given_up.grades.now in
    let n = length l.yielded in
    (l.end ≤ l.at + n * room)
    × (length l.out ≡ length l.initial.out)
    × Left (printed_given_up l.slot.0 (jobs_of T G)) l.initial.out l.at (printed_given_up l.slot.0 (jobs_of (drop n T) (drop n G))) l.out l.end

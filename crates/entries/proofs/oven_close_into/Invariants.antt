-- The entries before i are written, and the rest are as they were.
use mathlib.Core.Path.{◌≡◌}
use Rattle.entries.specs.Inner.Parts.{written}
use Rattle.entries.proofs.oven_close_into.Given as goal

abbrev pub invariant-loop-i : goal.invariant-loop-i
invariant-loop-i l = l.list ≡ written l.initial.list l.closed.parts l.i

-- The walk from what was seen, along the jobs that are left, is the walk along all.
use mathlib.Core.Path.{◌≡◌}
use Prim.Native.Nat.{◌≤◌}
use lib.ListN.{drop}
use Rattle.board.specs.Held.{used}
use Rattle.soundness.specs.Inner.Walk.{nothing_seen, all_well}
use Rattle.soundness.proofs.jobs_sound.Given as goal

abbrev pub invariant-loop-x : goal.invariant-loop-x
invariant-loop-x l = (l.s.sharing ≤ l.x-index) × (all_well l.b l.s (drop l.x-index (used l.b)) ≡ all_well l.b nothing_seen (used l.b))

use mathlib.Core.Path.{◌≡◌}
use Prim.Native.Nat.{◌≤◌}
use lib.ListN.{drop}
use Rattle.lines.specs.Machine.{partial_room}
use Rattle.cutting.specs.Cut.{partial_bytes, extend_all}
use Rattle.cutting.proofs.Partial.extend.Given as goal

abbrev pub invariant-loop-b : goal.invariant-loop-b
invariant-loop-b l = record {
  line : extend_all (partial_bytes l.self) (drop l.b-index l.bytes) ≡ extend_all (partial_bytes l.initial.self) l.bytes;
  few : l.initial.self.len ≤ partial_room → l.self.len ≤ partial_room;
}

use Prim.Native.Nat.{◌+◌, ◌-◌}
use mathlib.Core.Path.{◌≡◌}
use Rattle.admitting.specs.Inner.InLimits.{in_slot_before}
use Rattle.admitting.proofs.in_slot.Given as goal

abbrev pub invariant-loop-at : goal.invariant-loop-at
invariant-loop-at g l =
    let board = g.B.HoldsBoard.board l.b in
    in_slot_before board l.at + (l.head.count - l.at) ≡ in_slot_before board board.count

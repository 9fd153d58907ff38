-- The jobs of the slot are counted from the end. Invariant: those at the places passed, and those before, are all.
use Prim.Native.Nat.{suc, ◌-◌}
use mathlib.Core.Path.{◌≡◌, sym, ap, ◌∙◌}
use native.Mathlib.Omega.{arith}
use Rattle.board.specs.declared.Slot.{Slot}
use Rattle.packing.specs.declared.Head.{Head}
use Rattle.admitting.specs.Inner.InLimits.{in_slot_before}
use Rattle.admitting.proofs.InSlot.{before_more, before_no_more}
use Rattle.admitting.proofs.in_slot.Goals as goal

pub returns-then-admitted_at-head : goal.returns-then-admitted_at-head
returns-then-admitted_at-head g c =
    let b = g.B.HoldsBoard.board c.args.b.now in
    let k = c.loop-at.at - 1 in
    let e : suc k ≡ c.loop-at.at = omega arith in
    let same : c.head-head.result.slot.0 ≡ b.slot.0 = ap (λ (h : Head). h.slot.0) c.head-head.ensures in
    let number = λ (s : Slot). s.0 in
    let none = before_no_more b k (λ h. c.if-admitted_at-head.true (ap number c.admitted_at.ensures ∙ h ∙ sym same)) in
    omega (arith, ap (in_slot_before b) e, none)

pub loop-at-preserved : goal.loop-at-preserved
loop-at-preserved g c =
    let b = g.B.HoldsBoard.board c.args.b.now in
    let k = c.loop-at.at - 1 in
    let e : suc k ≡ c.loop-at.at = omega arith in
    let same : c.head-head.result.slot.0 ≡ b.slot.0 = ap (λ (h : Head). h.slot.0) c.head-head.ensures in
    let number = λ (s : Slot). s.0 in
    let more = before_more b k (sym (ap number c.admitted_at.ensures) ∙ c.if-admitted_at-head.false ∙ same) in
    omega (arith, ap (in_slot_before b) e, more)

pub returns : goal.returns
unfolding in_slot_before
returns g c =
    let b = g.B.HoldsBoard.board c.args.b.now in
    let e : c.loop-at.at ≡ 0 = omega arith in
    omega (arith, ap (in_slot_before b) e)

-- The answer goes by the first number that is given.
use mathlib.Core.Path.{refl, ap, ◌∙◌}
use Prim.Native.Nat.{◌+◌, ◌-◌}
use native.Mathlib.Omega.{arith}
use Rattle.std.proofs.lemmas.Result.{err_from_is_err_and}
use Rattle.board.specs.declared.Slot.{Slot}
use Rattle.board.specs.declared.Place.{Place}
use Rattle.board.specs.declared.refusal.Refusal.TheVariants.{NotSound}
use Rattle.board.specs.Limits.{longest_laxity, places_held, last_slot, deepest}
use Rattle.board.specs.Held.{slot_number}
use Rattle.board.specs.Refusals.{number_of}
use Rattle.packing.specs.declared.Head.{Head}
use Rattle.limits.proofs.Limits.{within}
use Rattle.admitting.specs.Inner.Placed.{with_place_if_free}
use Rattle.admitting.proofs.ByNumber.{some_number, number_out, number_row, number_full, refused_by, placed_by, limits_read, row_read, rows_passed, passed}
use Rattle.admitting.proofs.IfFree.{put_if_free}
use Rattle.admitting.proofs.admit_on.Goals as goal

pub returns-then-not-in_limits : goal.returns-then-not-in_limits
returns-then-not-in_limits g c =
    let b = g.B.HoldsBoard.board c.args.b.now in
    let a = c.args in
    let outside = limits_read b _ c.head-head.ensures _ _ c.in_limits.ensures c.if-not-in_limits.true in
    refused_by b a.ticket a.laxity.0 a.grade NotSound (number_out b a.ticket a.laxity.0 a.grade outside)

pub in_slot-taken-requires : goal.in_slot-taken-requires
in_slot-taken-requires g c =
    let b = g.B.HoldsBoard.board c.args.b.now in
    (within b (limits_read b _ c.head-head.ensures _ _ c.in_limits.ensures c.if-not-in_limits.false)).counted

pub returns-in_err-first_row : goal.returns-in_err-first_row
returns-in_err-first_row g c =
    let b = g.B.HoldsBoard.board c.args.b.now in
    let a = c.args in
    let inside = limits_read b _ c.head-head.ensures _ _ c.in_limits.ensures c.if-not-in_limits.false in
    let r = c.in_err-first_row.field-0.0 in
    let given = row_read b _ c.head-head.ensures a.ticket a.laxity.0 a.grade _ (number_of r) inside c.in_err-first_row.ensures in
    let p = err_from_is_err_and c.from_residual.result c.from_residual.ensures.1 in
    rw (p.1, p.2)
    (refused_by b a.ticket a.laxity.0 a.grade r (number_row b a.ticket a.laxity.0 a.grade inside _ _ c.in_slot-taken.ensures given (some_number r)))

pub returns-then-head-ge-PLACES : goal.returns-then-head-ge-PLACES
unfolding places_held
returns-then-head-ge-PLACES g c =
    let b = g.B.HoldsBoard.board c.args.b.now in
    let a = c.args in
    let inside = limits_read b _ c.head-head.ensures _ _ c.in_limits.ensures c.if-not-in_limits.false in
    let given = row_read b _ c.head-head.ensures a.ticket a.laxity.0 a.grade _ 0 inside c.in_ok-first_row.ensures in
    let count = ap (λ (h : Head). h.count) c.head-head.ensures in
    refused_by b a.ticket a.laxity.0 a.grade NotSound
    (number_full b a.ticket a.laxity.0 a.grade inside _ _ c.in_slot-taken.ensures given refl (omega arith))

pub overflow_add-last : goal.overflow_add-last
unfolding longest_laxity last_slot
overflow_add-last g c =
    let a = c.args in
    let p = rows_passed (g.B.HoldsBoard.board a.b.now) _ c.head-head.ensures a.ticket a.laxity.0 a.grade _ c.in_limits.ensures c.if-not-in_limits.false _ c.in_slot-taken.ensures c.in_ok-first_row.ensures in
    let slot = ap (λ (h : Head). h.slot.0) c.head-head.ensures in
    omega (arith, p)

pub overflow_sub-last : goal.overflow_sub-last
overflow_sub-last g c =
    let a = c.args in
    let p = rows_passed (g.B.HoldsBoard.board a.b.now) _ c.head-head.ensures a.ticket a.laxity.0 a.grade _ c.in_limits.ensures c.if-not-in_limits.false _ c.in_slot-taken.ensures c.in_ok-first_row.ensures in
    omega (arith, p)

pub overflow_cast-grade : goal.overflow_cast-grade
unfolding deepest
overflow_cast-grade g c =
    let a = c.args in
    let p = rows_passed (g.B.HoldsBoard.board a.b.now) _ c.head-head.ensures a.ticket a.laxity.0 a.grade _ c.in_limits.ensures c.if-not-in_limits.false _ c.in_slot-taken.ensures c.in_ok-first_row.ensures in
    omega (arith, p)

pub returns : goal.returns
unfolding places_held
returns g c =
    let b = g.B.HoldsBoard.board c.args.b.now in
    let a = c.args in
    let p = passed b _ c.head-head.ensures a.ticket a.laxity.0 a.grade _ c.in_limits.ensures c.if-not-in_limits.false _ c.in_slot-taken.ensures c.in_ok-first_row.ensures (omega arith) in
    let slot = ap (λ (h : Head). h.slot) c.head-head.ensures in
    let number = ap (λ (s : Slot). s.0) slot in
    let job : Place = record { ticket = a.ticket; admitted = c.head-head.result.slot; last = slot_number (c.head-head.result.slot.0 + a.laxity.0 - 1); grade = a.grade } in
    let whole = g.met.B.HoldsBoard.holds_whole b job (record { free = p.let_in.free; in_book = omega (arith, p.let_in); graded = p.let_in.graded }) in
    placed_by b _ a.ticket a.laxity.0 a.grade c.head-head.result.slot p.none slot (c.put.ensures ∙ ap (with_place_if_free b) whole ∙ put_if_free b job p.let_in.free)

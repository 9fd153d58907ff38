-- After i places the new ones begin with those among them that have another ticket.
use mathlib.Core.Path.{◌≡◌, ap}
use mathlib.Core.Bool.{not}
use Prim.Native.Nat.{◌<◌}
use lib.ListN.{get_or, take, length-take}
use native.Mathlib.Omega.{arith}
use borrow.Author.Rules.{rules}
use borrow.Author.Tests.{eq-eqb, ne_eqb}
use Rattle.std.proofs.lemmas.List.{get_or-take}
use Rattle.board.specs.Limits.{places_held}
use Rattle.board.specs.Held.{job_in, blank}
use Rattle.board.specs.Withdraw.{without_ticket}
use Rattle.board.proofs.Walk.{place_at}
use Rattle.board.proofs.Thinning.{thinning_none, thinning_same, thinning_more, thinning_all}
use Rattle.withdrawing.proofs.without.Goals as goal
use Rattle.withdrawing.proofs.without.Goals.{else-p-ticket, then-p-ticket}

pub loop-p-init : goal.loop-p-init
unfolding places_held
loop-p-init c = rw c.blank-places.ensures (thinning_none (search rules) c.min-held.ensures)

pub loop-p-preserved : goal.loop-p-preserved
unfolding job_in
loop-p-preserved c =
    let b = c.args.b.now in
    let h : c.loop-p.p-index < c.min-held.result = omega (arith, length-take c.min-held.result b.places) in
    let here : get_or (take c.min-held.result b.places) c.loop-p.p-index blank ≡ place_at b c.loop-p.p-index = get_or-take c.min-held.result b.places c.loop-p.p-index blank h in
    elim c.if-p-ticket.branch [
      | then-p-ticket w ↦
          rw (w.places-is, w.count-is, here) (thinning_more c.loop-p.invariant h (ap not (ne_eqb _ _ (rw here at w.if-p-ticket.true))))
      | else-p-ticket w ↦ rw (w.places-is, w.count-is) (thinning_same c.loop-p.invariant h (ap not (eq-eqb _ _ (rw here at w.if-p-ticket.false))))
    ]

pub returns : goal.returns
unfolding without_ticket places_held
returns c =
    let w = c.loop-p.invariant.walked in
    thinning_all c.loop-p.invariant (omega (arith, w.full, w.in_use, length-take c.min-held.result c.args.b.now.places)) _

-- The lowest ticket of the places passed.
use Rattle.std.proofs.Common.{◌≡◌, take, subst, arith}
use Rattle.std.proofs.lemmas.List.{length-take}
use Rattle.board.specs.Limits.{places_held}
use Rattle.packing.specs.Inner.Packed.{in_use}
use Rattle.smallest.specs.Inner.Lowest.{LowestOf}
use Rattle.smallest.proofs.Lowest.{LowestTo, lowest_none, lowest_past, lowest_here, lowest_all}
use Rattle.smallest.proofs.lowest_ticket.Goals as goal
use Rattle.smallest.proofs.lowest_ticket.Goals.{then-k-key, else-k-key}

pub loop-i-init : goal.loop-i-init
loop-i-init c = lowest_none _ _ _

pub loop-i-preserved : goal.loop-i-preserved
loop-i-preserved c =
    let m = c.loop-i.invariant in
    elim c.if-k-key.branch [ then-k-key w ↦ lowest_here _ _ _ m (omega arith) _ w.if-k-key.true (omega arith) | else-k-key w ↦ lowest_past _ _ _ m (omega arith) _ w.if-k-key.false (omega arith) ]

pub returns : goal.returns
unfolding in_use places_held
returns c =
    let a = c.args in
    let K = a.b.now.keys in
    let T = a.b.now.tickets in
    let e : c.loop-i.i ≡ c.min.result = omega (arith, length-take c.min.result K) in
    let L = lowest_all _ K T a.key (subst (λ n. LowestTo (take c.min.result K) T a.key n c.loop-i.lowest) e c.loop-i.invariant) in
    subst (λ n. LowestOf n K T a.key c.loop-i.lowest) c.min.ensures L

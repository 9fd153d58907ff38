use mathlib.Core.Path.{sym, ap}
use native.Mathlib.Omega.{arith}
use Rattle.hindsight.specs.Inner.Search.{visited_at, holder_number, holder}
use Rattle.hindsight.proofs.Searching.Listed.{first_there, last_there}
use Rattle.hindsight.proofs.Searching.Looking.{look_first, look_past, look_end}
use Rattle.hindsight.proofs.Searching.Taken.{room_free, ready_holder, room_moved}
use Rattle.hindsight.proofs.Searching.Turns.{turn_room, turn_falls, turn_on, turn_taken}
use Rattle.hindsight.proofs.listed.Listed.+move_holder_seek.Goals as goal
use Rattle.hindsight.proofs.listed.Listed.+move_holder_seek.Goals.{seek-then-not-trail-at+else-move_holder, seek-else-not-trail-at}

pub move_holder-seek-requires : goal.move_holder-seek-requires
unfolding holder
move_holder-seek-requires t c = (omega (arith, c.decreases), ready_holder _ c.args.at c.args.trail.now c.requires _ (ap holder_number c.in-Some.is))

pub move_holder-returns-in-Some : goal.move_holder-returns-in-Some
unfolding holder
move_holder-returns-in-Some t c = room_moved _ c.args.at c.args.trail.now c.requires _ (ap holder_number c.in-Some.is) _ _ c.seek.ensures

pub move_holder-returns-in-None : goal.move_holder-returns-in-None
unfolding holder
move_holder-returns-in-None t c = room_free _ c.args.at c.args.trail.now c.requires (ap holder_number c.in-None.is)

pub seek-loop-at-init : goal.seek-loop-at-init
seek-loop-at-init t c =
    rw (sym (first_there c.args.self.now.windows.now c.args.job)) (look_first c.args.self.now.windows.now c.args.job c.args.trail.now c.requires)

pub seek-move_holder-requires : goal.seek-move_holder-requires
unfolding visited_at
seek-move_holder-requires t c =
    let l = c.loop-at in
    let f = turn_falls _ c.args.self.now.accepted _ c.requires.job _ l.auto.at c.loop-at-test.true _ _ l.invariant c.if-not-trail-at.true in
    (omega (arith, c.decreases), turn_room _ c.args.self.now.accepted _ c.requires.job _ l.auto.at c.loop-at-test.true _ _ l.invariant)

pub seek-returns-then-move_holder : goal.seek-returns-then-move_holder
unfolding visited_at
seek-returns-then-move_holder t c =
    let l = c.loop-at in
    turn_taken _ c.args.self.now.accepted _ c.requires.job _ l.auto.at c.loop-at-test.true _ _ l.invariant _ c.if-not-trail-at.true
    (rw c.if-move_holder.true at c.move_holder.ensures)

pub seek-loop-at-preserved : goal.seek-loop-at-preserved
unfolding visited_at
seek-loop-at-preserved t c =
    let l = c.loop-at in
    elim c.if-not-trail-at.branch [
      | seek-then-not-trail-at+else-move_holder w ↦
          rw w.trail-is
          (turn_on _ c.args.self.now.accepted _ c.requires.job _ l.auto.at c.loop-at-test.true _ _ l.invariant _ (rw w.if-move_holder.false at w.move_holder.ensures))
      | seek-else-not-trail-at w ↦ rw w.trail-is (look_past _ _ _ _ _ l.invariant w.if-not-trail-at.false)
    ]

pub seek-returns : goal.seek-returns
seek-returns t c = look_end _ _ _ _ _ c.loop-at.invariant (omega (arith, last_there c.args.self.now.windows.now c.args.job))

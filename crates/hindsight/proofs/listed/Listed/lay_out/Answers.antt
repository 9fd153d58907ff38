-- The layout of the slots passed.
use mathlib.Core.Path.{refl, sym, ap, ◌∙◌}
use native.Mathlib.Omega.{arith}
use Rattle.matching.specs.declared.Laid.{Laid}
use Rattle.matching.specs.Layout.{laid_to, layout}
use Rattle.hindsight.proofs.LayingOut.{laid_job, laid_none}
use Rattle.hindsight.proofs.listed.Listed.lay_out.Goals as goal
use Rattle.hindsight.proofs.listed.Listed.lay_out.Goals.{in-Some, in_default}

pub loop-slot-init : goal.loop-slot-init
unfolding laid_to
loop-slot-init c = refl

pub loop-slot-preserved : goal.loop-slot-preserved
loop-slot-preserved c =
    let l = c.loop-slot in
    elim c.match-next_job.branch [
      | in-Some w ↦ rw w.laid-is (laid_job _ _ l.slot l.auto.slot _ l.invariant _ (sym w.in-Some.is ∙ c.next_job.ensures.next))
      | in_default w ↦ rw w.laid-is (laid_none _ _ l.slot l.auto.slot _ l.invariant (sym w.in_default.is ∙ c.next_job.ensures.next))
    ]

pub returns : goal.returns
unfolding layout
returns c = ap (λ (x : Laid). x.slots) (c.loop-slot.invariant ∙ ap (laid_to c.args.self.now.windows.now c.args.chosen) (omega arith))

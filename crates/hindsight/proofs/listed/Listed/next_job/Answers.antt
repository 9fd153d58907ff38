-- The best of the jobs passed.
use mathlib.Core.Path.{refl, sym, ◌∙◌}
use native.Mathlib.Omega.{arith}
use Rattle.matching.specs.Windows.{no_window, first_of}
use Rattle.matching.specs.Choice.{is_in}
use Rattle.matching.specs.Layout.{next_to}
use Rattle.hindsight.proofs.LayingOut.{job_small, next_better, next_not_waiting, next_not_come, next_not_better}
use Rattle.hindsight.proofs.listed.Listed.next_job.Goals as goal
use Rattle.hindsight.proofs.listed.Listed.next_job.Goals.{then-waiting-i+then-w-slot+then-beats, else-waiting-i, else-waiting-i-via-then-waiting-i+then-w-slot+else-beats, else-waiting-i-via-then-waiting-i+else-w-slot, else-waiting-i-via-else-waiting-i}

pub loop-i-init : goal.loop-i-init
unfolding next_to
loop-i-init c = refl

pub beats-requires : goal.beats-requires
beats-requires c x e = omega (arith, job_small _ c.args.self.now.accepted.few _ _ c.loop-i.i x (omega arith) (sym e ∙ c.loop-i.invariant))

pub loop-i-preserved : goal.loop-i-preserved
unfolding first_of no_window is_in
loop-i-preserved c =
    let few = c.args.self.now.accepted.few in
    elim c.if-waiting-i.branch [
      | then-waiting-i+then-w-slot+then-beats w ↦
          rw w.best-is
          (next_better _ few _ _ c.loop-i.i _ c.loop-i.invariant c.loop-i-test.true w.if-waiting-i.true w.if-w-slot.true (sym w.beats.ensures ∙ w.if-beats.true))
      | else-waiting-i w ↦
          rw w.best-is
          (elim w.else-waiting-i.branch [
            | else-waiting-i-via-then-waiting-i+then-w-slot+else-beats v ↦ next_not_better _ few _ _ c.loop-i.i _ c.loop-i.invariant (sym v.beats.ensures ∙ v.if-beats.false)
            | else-waiting-i-via-then-waiting-i+else-w-slot v ↦ next_not_come _ few _ _ c.loop-i.i _ c.loop-i.invariant v.if-w-slot.false
            | else-waiting-i-via-else-waiting-i v ↦ next_not_waiting _ few _ _ c.loop-i.i _ c.loop-i.invariant v.if-waiting-i.false
          ])
    ]

pub returns-clause-in_list : goal.returns-clause-in_list
returns-clause-in_list c x e = omega (arith, job_small _ c.args.self.now.accepted.few _ _ c.loop-i.i x c.loop-i.auto.i-end (sym e ∙ c.loop-i.invariant))

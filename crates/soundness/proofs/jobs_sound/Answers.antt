use mathlib.Core.Path.{refl, ap, ◌∙◌}
use native.Mathlib.Omega.{arith}
use lib.ListN.{get_or}
use Rattle.board.specs.Held.{blank, used}
use Rattle.soundness.specs.declared.Seen.{Seen}
use Rattle.soundness.specs.Inner.Walk.{seen_with, nothing_seen, all_well}
use Rattle.board.proofs.Grades.{grades_of}
use Rattle.soundness.proofs.Sharing.{sharing_most}
use Rattle.soundness.proofs.Steps.{walk_step, walk_done}
use Rattle.soundness.proofs.jobs_sound.Goals as goal

pub loop-x-init : goal.loop-x-init
unfolding nothing_seen
loop-x-init c = rw c.nothing-s.ensures (omega arith, refl)

pub loop-x-preserved : goal.loop-x-preserved
unfolding seen_with used
loop-x-preserved c =
    let b = c.args.b.now in
    let seen = c.with-s.ensures in (
      omega (arith, ap (λ (r : Seen). r.sharing) seen, sharing_most c.loop-x.s (get_or (used b) c.loop-x.x-index blank)),
      walk_step b c.loop-x.s (used b) c.loop-x.x-index c.with-s.result c.grade_count-grades.result (c.grade_count-grades.ensures ∙ grades_of _ c.requires.0) c.loop-x-test.true seen
          ∙ c.loop-x.invariant.1,
    )

pub returns : goal.returns
unfolding all_well used
returns c = walk_done c.args.b.now c.loop-x.s (used c.args.b.now) c.loop-x.x-index c.loop-x-test.false ∙ c.loop-x.invariant.1

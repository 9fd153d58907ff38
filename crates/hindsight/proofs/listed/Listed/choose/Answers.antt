-- After i jobs the chosen ones hold a slot each.
use mathlib.Core.Path.{ap, ◌∙◌}
use native.Mathlib.Omega.{arith}
use Rattle.matching.specs.Choice.{chosen_to, chosen as chosen_of}
use Rattle.hindsight.proofs.Choosing.Matched.{matched_first, matched_next}
use Rattle.hindsight.proofs.listed.Listed.choose.Goals as goal

pub loop-i-init : goal.loop-i-init
loop-i-init c = matched_first _

pub loop-i-preserved : goal.loop-i-preserved
loop-i-preserved c = matched_next _ c.args.self.now.accepted _ c.loop-i-test.true _ _ c.loop-i.invariant _ _ (rw c.begin-trail.ensures at c.seek.ensures)

pub returns : goal.returns
unfolding chosen_of
returns c = c.loop-i.invariant.chosen_is ∙ ap (chosen_to c.args.self.now.windows.now) (omega arith)

use Rattle.hindsight.proofs.Choosing.Matched.{Matched}
use Rattle.hindsight.proofs.listed.Listed.choose.Given as goal

abbrev pub invariant-loop-i : goal.invariant-loop-i
invariant-loop-i l = Matched l.self.windows.now l.i l.chosen l.holders

use Rattle.std.proofs.Common.{◌≡◌, ◌-◌}
use Rattle.matching.specs.Layout.{laid_to}
use Rattle.hindsight.proofs.listed.Listed.lay_out.Given as goal

abbrev pub invariant-loop-slot : goal.invariant-loop-slot
invariant-loop-slot l = l.laid ≡ laid_to l.self.windows.now l.fn.chosen (l.slot - 1)

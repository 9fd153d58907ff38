-- The refusal found in reading, or the one of the call.
use mathlib.Core.Path.{refl, sym, ◌∙◌}
use Rattle.worklist.specs.Refusals.{or_else}
use Rattle.worklist.proofs.Found.{found_none, found_many, found_slot}
use Rattle.worklist.proofs.refusal.Goals as goal

pub returns-in-Some : goal.returns-in-Some
unfolding or_else
returns-in-Some c = rw c.in-Some.is refl

pub returns-then-number-eq0 : goal.returns-then-number-eq0
unfolding or_else
returns-then-number-eq0 c = rw c.in_default.is (found_none _ _ c.if-number-eq0.true)

pub returns-then-number : goal.returns-then-number
unfolding or_else
returns-then-number c = rw c.in_default.is (found_many _ _ (c.if-number.true ∙ c.number.ensures))

pub returns : goal.returns
unfolding or_else
returns c = rw c.in_default.is (found_slot _ _ c.if-number-eq0.false (λ e. c.if-number.false (e ∙ sym c.number.ensures)) _ c.windows_first-first.ensures.0)

-- The rows before the one given are not given, by the tests that the code has passed.
use mathlib.Core.Path.{sym, ◌∙◌}
use native.Mathlib.Omega.{arith}
use Rattle.board.specs.Limits.{most_in_slot, last_slot}
use Rattle.board.proofs.Grades.{grades_of}
use Rattle.rows.proofs.Order.{three, four, five, six, seven, none}
use Rattle.rows.proofs.first_row.Goals as goal

pub returns-then-slot : goal.returns-then-slot
unfolding last_slot
returns-then-slot c h = three _ _ _ _ _ _ _ c.if-slot.true

pub returns-then-ticket-highest : goal.returns-then-ticket-highest
unfolding last_slot
returns-then-ticket-highest c h = four _ _ _ _ _ _ _ c.if-slot.false c.if-ticket-highest.true

pub returns-then-not-laxity_allowed : goal.returns-then-not-laxity_allowed
unfolding last_slot
returns-then-not-laxity_allowed c h =
    five _ _ _ _ _ _ _ c.if-slot.false c.if-ticket-highest.false (sym c.laxity_allowed.ensures ∙ c.if-not-laxity_allowed.true)

pub returns-then-grade_count-grade : goal.returns-then-grade_count-grade
unfolding last_slot
returns-then-grade_count-grade c h =
    six _ _ _ _ _ _ _ c.if-slot.false c.if-ticket-highest.false (sym c.laxity_allowed.ensures ∙ c.if-not-laxity_allowed.false)
    (omega (arith, grades_of c.args.depth h))

pub returns-then-taken-ge-MOST_IN_SLOT : goal.returns-then-taken-ge-MOST_IN_SLOT
unfolding last_slot most_in_slot
returns-then-taken-ge-MOST_IN_SLOT c h =
    seven _ _ _ _ _ _ _ c.if-slot.false c.if-ticket-highest.false (sym c.laxity_allowed.ensures ∙ c.if-not-laxity_allowed.false)
    (omega (arith, grades_of c.args.depth h))
    c.if-taken-ge-MOST_IN_SLOT.true

pub returns : goal.returns
unfolding last_slot most_in_slot
returns c h =
    none _ _ _ _ _ _ _ c.if-slot.false c.if-ticket-highest.false (sym c.laxity_allowed.ensures ∙ c.if-not-laxity_allowed.false)
    (omega (arith, grades_of c.args.depth h))
    c.if-taken-ge-MOST_IN_SLOT.false

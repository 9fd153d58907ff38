-- The first of rows 3 and 8 that is given.
use borrow.Author.Tests.{eq-eqb, ne_eqb, le-leb, lt-leb}
use Rattle.board.specs.Limits.{places_held, last_slot}
use Rattle.board.specs.Rows.{◌if◌, first_given, close_rows}
use Rattle.rows.proofs.close.first_row.Goals as goal

pub returns-then-now : goal.returns-then-now
unfolding first_given close_rows ◌if◌ last_slot
returns-then-now c = simp (eq-eqb _ _ c.if-now.true)

pub returns-then-lent-lt-PLACES : goal.returns-then-lent-lt-PLACES
unfolding first_given close_rows ◌if◌ last_slot places_held
returns-then-lent-lt-PLACES c = simp (ne_eqb _ _ c.if-now.false, lt-leb _ _ c.if-lent-lt-PLACES.true)

pub returns : goal.returns
unfolding first_given close_rows ◌if◌ last_slot places_held
returns c = simp (ne_eqb _ _ c.if-now.false, le-leb _ _ c.if-lent-lt-PLACES.false)

-- The two tests of row 5.
use native.Mathlib.Omega.{arith}
use borrow.Author.Tests.{le-leb, lt-leb}
use Rattle.board.specs.Limits.{longest_laxity}
use Rattle.rows.proofs.laxity_allowed.Goals as goal

pub returns-then-laxity-ge1 : goal.returns-then-laxity-ge1
unfolding longest_laxity
returns-then-laxity-ge1 c = simp (le-leb 1 c.args.laxity.0 (omega arith))

pub returns-else-laxity-ge1 : goal.returns-else-laxity-ge1
returns-else-laxity-ge1 c = simp (lt-leb 1 c.args.laxity.0 (omega arith))

-- The answer is the definition's.
use native.Mathlib.Omega.{arith}
use borrow.Author.Tests.{lt-ltb, le-ltb}
use Rattle.board.specs.Limits.{places_held, deepest}
use Rattle.board.specs.Rows.{◌if◌, first_given}
use Rattle.board.specs.Open.{empty_board, opened_if, opened}
use Rattle.board.proofs.Board.new.Goals as goal

pub returns-then-depth-gt-DEEPEST : goal.returns-then-depth-gt-DEEPEST
unfolding opened first_given ◌if◌ opened_if empty_board places_held deepest
returns-then-depth-gt-DEEPEST c = simp (lt-ltb deepest c.args.depth (omega arith))

pub returns : goal.returns
unfolding opened first_given ◌if◌ opened_if empty_board places_held deepest
returns c = simp (le-ltb deepest c.args.depth (omega arith), c.zero-board.ensures)

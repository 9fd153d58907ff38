use Rattle.board.specs.Limits.{places_held}
use Rattle.board.specs.Open.{empty_board}
use Rattle.board.proofs.Board.zero.Goals as goal

pub returns : goal.returns
unfolding empty_board places_held
returns c = simp (c.blank.ensures)

-- A board without a free place stays as it was.
use mathlib.Core.Path.{sym}
use Rattle.board.specs.Limits.{places_held}
use Rattle.admitting.proofs.IfFree.{put_if_full, put_if_free}
use Rattle.admitting.proofs.holds_board.BoardHoldsBoard.put.Goals as goal

pub returns-then-self-ge-PLACES : goal.returns-then-self-ge-PLACES
unfolding places_held
returns-then-self-ge-PLACES c = sym (put_if_full c.args.self.now c.args.job c.if-self-ge-PLACES.true)

pub returns : goal.returns
unfolding places_held
returns c = sym (put_if_free c.args.self.now c.args.job c.if-self-ge-PLACES.false)

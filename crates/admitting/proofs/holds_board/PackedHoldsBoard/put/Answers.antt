-- The places of the board are those of the arrays.
use mathlib.Core.Path.{sym, ◌∙◌}
use borrow.Author.Rules.{rules}
use Rattle.board.specs.Limits.{places_held}
use Rattle.packing.specs.Inner.Packed.{board_in, board_of, packed}
use Rattle.admitting.proofs.IfFree.{put_if_full, put_if_free}
use Rattle.admitting.proofs.InArrays.{put_in}
use Rattle.admitting.proofs.holds_board.PackedHoldsBoard.put.Goals as goal

pub returns-then-at-ge-PLACES : goal.returns-then-at-ge-PLACES
unfolding places_held board_in
returns-then-at-ge-PLACES c = sym (put_if_full (board_of c.args.self.now) (packed c.args.job) c.if-at-ge-PLACES.true)

pub returns : goal.returns
unfolding places_held board_in
returns c =
    let p = c.args.self.now in
    let free = c.if-at-ge-PLACES.false in
    put_in p.head p.keys p.tickets p.admitted c.args.job free (search rules) (search rules) (search rules) c.key.result c.key.ensures
    ∙ sym (put_if_free (board_of p) (packed c.args.job) free)

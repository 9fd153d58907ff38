-- The board's place has the slot that the array has, and past the places in use none.
use native.Mathlib.Omega.{arith}
use Rattle.board.specs.Limits.{places_held}
use Rattle.packing.specs.Inner.Packed.{in_use}
use Rattle.admitting.proofs.InArrays.{admitted_in, admitted_out}
use Rattle.admitting.proofs.holds_board.PackedHoldsBoard.admitted_at.Goals as goal

pub returns-then-at-lt-PLACES : goal.returns-then-at-lt-PLACES
unfolding places_held
returns-then-at-lt-PLACES c =
    let p = c.args.self.now in
    admitted_in p.head p.keys p.tickets p.admitted c.args.at (omega arith) (omega arith)

pub returns-else-at-self : goal.returns-else-at-self
unfolding places_held in_use
returns-else-at-self c =
    let p = c.args.self.now in
    let past = c.else-at-self.either in
    admitted_out p.head p.keys p.tickets p.admitted c.args.at (omega (arith, past))

-- The jobs given up stand in order, and in no other list do they.
use Rattle.board.proofs.Soundness.Apart.{facts}
use Rattle.board.proofs.Calls.GivenUp.{given_up_perm, given_up_ordered, given_up_only}
use Rattle.claims.specs.GivenUpInOrder.{GivenUpInOrder}

pub given_up_in_order : GivenUpInOrder
unfolding GivenUpInOrder
given_up_in_order b t s =
    let known = facts b s in
    (record { each_once = given_up_perm b t; in_order = given_up_ordered b t known }, λ L o. given_up_only b t known L o.each_once o.in_order)

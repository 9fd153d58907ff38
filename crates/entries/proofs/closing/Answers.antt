-- The covered closing, into the first entries of three arrays.
use Rattle.board.specs.Limits.{places_held}
use Rattle.board.specs.Lent.{lent_of}
use Rattle.entries.proofs.Gathering.{gathered}
use Rattle.entries.proofs.closing.Goals as goal

pub returns : goal.returns
unfolding places_held
returns c =
    let a = c.args in
    gathered a.b a.lent c.min-n.result c.min-n.ensures (lent_of c.close-answer.new.tickets c.close-answer.new.grades c.close-answer.new.slots) c.close-answer.result c.close-answer.auto.tickets c.close-answer.ensures

use borrow.Author.Rules.{rules}
use Rattle.board.specs.Tally.{tally_grades}
use Rattle.board.specs.Limits.{deepest}
use Rattle.packing.specs.Inner.Packed.{place_of}
use Rattle.packing.proofs.place.Goals as goal

pub returns : goal.returns
unfolding place_of tally_grades deepest
returns c = search rules

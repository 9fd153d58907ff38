use borrow.Author.Rules.{rules}
use Rattle.board.specs.Tally.{tally_grades}
use Rattle.board.specs.Limits.{deepest}
use Rattle.packing.specs.Inner.Packed.{key_of}
use Rattle.packing.proofs.key.Goals as goal

pub returns : goal.returns
unfolding key_of tally_grades deepest
returns c = search rules

-- `read_alone`: a letter that ends the line is its only field.
use mathlib.Core.Path.{refl}
use Rattle.requests.specs.Inner.Parts.{read_result}
use Rattle.requests.proofs.Places.{both, one}
use Rattle.requests.proofs.read_alone.Goals as goal

pub returns : goal.returns
unfolding read_result
returns c h = both _ _ _ _ (one c.args.line.now h) refl

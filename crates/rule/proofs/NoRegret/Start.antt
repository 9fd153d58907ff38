-- A grade that starts with u, in heights and here.
use mathlib.Core.Path.{◌≡◌, refl}
use mathlib.Core.Bool.{Bool, true, false}
use mathlib.Core.List.{List, [], ◌∷◌}
use Rattle.heights.proofs.Trees.Run.{starts as starts_as_number}
use Rattle.lists.specs.Select.{one_if}
use Rattle.rule.specs.Grade.{starts}

-- heights' starts is the same test as a number
pub starts_one_if : (u w : List Bool) → starts_as_number u w ≡ one_if (starts u w)
unfolding starts_as_number starts one_if
starts_one_if [] w = refl
starts_one_if (b ∷ u) [] = refl
starts_one_if (true ∷ u) (true ∷ w) = starts_one_if u w
starts_one_if (true ∷ u) (false ∷ w) = refl
starts_one_if (false ∷ u) (true ∷ w) = refl
starts_one_if (false ∷ u) (false ∷ w) = starts_one_if u w

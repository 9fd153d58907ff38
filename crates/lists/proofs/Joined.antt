-- Every element of a list passes a test where each does: taken apart, and put together.
use mathlib.Core.Path.{◌≡◌, refl}
use mathlib.Core.Bool.{Bool, true}
use mathlib.Core.List.{List, [], ◌∷◌}
use Rattle.lists.specs.Select.{every}
use Rattle.lists.proofs.Tests.{and_left, and_right, and_intro}

module _ {A : Type 0} (p : A → Bool) where
  -- each element of the list passes
  abbrev pub Each : List A → Type 0
  Each [] = Unit {0}
  Each (a ∷ l) = (p a ≡ true) × Each l

  pub apart : (l : List A) → every p l ≡ true → Each l
  unfolding every
  apart [] h = tt
  apart (a ∷ l) h = (and_left (p a) (every p l) h, apart l (and_right (p a) (every p l) h))

  pub together : (l : List A) → Each l → every p l ≡ true
  unfolding every
  together [] h = refl
  together (a ∷ l) h = and_intro (p a) (every p l) h.0 (together l h.1)

-- one more that passes
infixr 20 ◌also◌
abbrev pub ◌also◌ : {X Y : Type 0} → X → Y → X × Y
x also y = (x, y)

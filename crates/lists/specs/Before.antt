-- What stands before the first x of a list.
use Rattle.std.specs.Prelude.{List, [], ◌∷◌, cond, ℕ, suc, eqb}

-- how many elements: all, where there is no x
unfoldable pub before : ℕ → List ℕ → ℕ
before x [] = 0
before x (y ∷ l) = cond (eqb y x) 0 (suc (before x l))

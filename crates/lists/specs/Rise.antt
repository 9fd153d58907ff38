-- Rising numbers.
use Rattle.std.specs.Prelude.{Bool, true, ◌&&◌, List, [], ◌∷◌, ℕ, leb, ltb}

-- each number is above the one before, and the first above m
unfoldable pub rise : ℕ → List ℕ → Bool
rise m [] = true
rise m (n ∷ l) = ltb m n && rise n l

-- no number is below the one before, nor the first below m
unfoldable pub never_fall : ℕ → List ℕ → Bool
never_fall m [] = true
never_fall m (n ∷ l) = leb m n && never_fall n l

-- each number is above the one before
unfoldable pub rising : List ℕ → Bool
rising [] = true
rising (n ∷ l) = rise n l

-- no number is below the one before
unfoldable pub never_falling : List ℕ → Bool
never_falling [] = true
never_falling (n ∷ l) = never_fall n l

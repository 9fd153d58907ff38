-- The least of some numbers.
use Rattle.std.specs.Prelude.{Bool, List, [], ◌∷◌, ◌++◌, ℕ, zero, suc, min}
use Rattle.lists.specs.Select.{select}

-- the least of m and the numbers of the list
unfoldable pub least_from : ℕ → List ℕ → ℕ
least_from m [] = m
least_from m (n ∷ l) = least_from (min m n) l

-- the least number of the list; 0 for an empty list
unfoldable pub least : List ℕ → ℕ
least [] = 0
least (n ∷ l) = least_from n l

-- the numbers from 1 to n
unfoldable pub one_to : ℕ → List ℕ
one_to zero = []
one_to (suc n) = one_to n ++ (suc n ∷ [])

-- the least of the numbers from 1 to n that passes the test; 0 where none does
unfoldable pub least_passing : (ℕ → Bool) → ℕ → ℕ
least_passing p n = least (select p (one_to n))

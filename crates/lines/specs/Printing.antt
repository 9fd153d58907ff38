-- What is printed: 'in decimal without leading zeros', a line each.
use Rattle.std.specs.Prelude.{true, false, List, [], ◌∷◌, ◌++◌, ℕ, zero, suc, ◌+◌, ◌/◌, ◌%◌, ltb}
use Rattle.lines.specs.Bytes.{Bytes, comma, line_end}

-- the digits of n, if they are no more than the first argument
unfoldable pub digits : ℕ → ℕ → Bytes
digits zero n = []
digits (suc k) n = elim (ltb n 10) [ true ↦ (48 + n) ∷ [] | false ↦ digits k (n / 10) ++ ((48 + n % 10) ∷ []) ]

unfoldable pub decimal : ℕ → Bytes
decimal n = digits (suc n) n

-- a letter, and numbers each behind a comma
unfoldable pub with_commas : List ℕ → Bytes
with_commas [] = line_end ∷ []
with_commas (n ∷ ns) = comma ∷ (decimal n ++ with_commas ns)

unfoldable pub printed : ℕ → List ℕ → Bytes
printed letter ns = letter ∷ with_commas ns

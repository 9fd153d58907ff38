-- Bytes with a meaning, and bytes cut into pieces.
use Rattle.std.specs.Prelude.{List, [], ◌∷◌, cond, ℕ, eqb}

abbrev pub Bytes : Type 0
Bytes = List ℕ

unfoldable pub line_end : ℕ
line_end = 10

unfoldable pub comma : ℕ
comma = 44

unfoldable pub letter_A : ℕ
letter_A = 65

unfoldable pub letter_B : ℕ
letter_B = 66

unfoldable pub letter_D : ℕ
letter_D = 68

unfoldable pub letter_G : ℕ
letter_G = 71

unfoldable pub letter_H : ℕ
letter_H = 72

unfoldable pub letter_Q : ℕ
letter_Q = 81

unfoldable pub letter_R : ℕ
letter_R = 82

unfoldable pub letter_S : ℕ
letter_S = 83

unfoldable pub letter_T : ℕ
letter_T = 84

unfoldable pub letter_W : ℕ
letter_W = 87

-- a byte in front of the first piece
unfoldable pub onto_first : ℕ → List Bytes → List Bytes
onto_first b [] = (b ∷ []) ∷ []
onto_first b (l ∷ ls) = (b ∷ l) ∷ ls

-- 'a line ends at byte 10 or at the end of input, and no line follows a byte 10 that is the last byte'
unfoldable pub lines : Bytes → List Bytes
lines [] = []
lines (b ∷ bs) = cond (eqb b line_end) ([] ∷ lines bs) (onto_first b (lines bs))

-- 'Fields stand in fixed order, parted by commas, with no quoting'
unfoldable pub fields : Bytes → List Bytes
fields [] = [] ∷ []
fields (b ∷ bs) = cond (eqb b comma) ([] ∷ fields bs) (onto_first b (fields bs))

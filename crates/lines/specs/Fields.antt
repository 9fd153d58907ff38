-- Fields read as numbers.
use Rattle.std.specs.Prelude.{Bool, false, cond, ◌&&◌, ◌||◌, [], ◌∷◌, ℕ, ◌+◌, ◌-◌, ◌*◌, ◌^◌, leb, eqb, length}
use Rattle.std.proofs.Math.Option.{Option, none, some}
use Rattle.lists.specs.Select.{every}
use Rattle.lines.specs.Bytes.{Bytes}

-- the byte is a decimal digit
unfoldable pub is_digit : ℕ → Bool
is_digit b = leb 48 b && leb b 57

-- the value of digits, after those of value n
unfoldable pub value_after : ℕ → Bytes → ℕ
value_after n [] = n
value_after n (b ∷ bs) = value_after (n * 10 + (b - 48)) bs

unfoldable pub value : Bytes → ℕ
value f = value_after 0 f

-- '1 to 10 decimal digits', not 'above 4,294,967,295'
unfoldable pub is_number : Bytes → Bool
is_number f = leb 1 (length f) && leb (length f) 10 && every is_digit f && leb (value f) 4_294_967_295

-- no byte at all
unfoldable pub is_blank : Bytes → Bool
is_blank f = eqb (length f) 0

-- what a field after the first must be
pub data Kind : Type 0 where
  a_number : Kind
  a_grade : Kind

-- 'an A line's grade may be blank'
unfoldable pub readable_as : Kind → Bytes → Bool
readable_as a_number f = is_number f
readable_as a_grade f = is_blank f || is_number f

-- what such a field is read as: a number; for a grade none where it is blank
abbrev pub ReadAs : Kind → Type 0
ReadAs a_number = ℕ
ReadAs a_grade = Option ℕ

unfoldable pub value_as : (k : Kind) → Bytes → ReadAs k
value_as a_number f = value f
value_as a_grade f = cond (is_blank f) none (some (value f))

-- The grade that is meant on a board of this depth. 02, One: 'A blank grade now means the worst grade of the open depth, 2^D − 1. At depth 0 that is
-- still 0.'
unfoldable pub grade_meant : (depth : ℕ) → Option ℕ → ℕ
grade_meant d none = 2 ^ d - 1
grade_meant d (some g) = g

-- a field of one given byte
unfoldable pub is_letter : ℕ → Bytes → Bool
is_letter c [] = false
is_letter c (b ∷ []) = eqb b c
is_letter c (b ∷ (x ∷ bs)) = false

-- A number's digits put into columns from the last one on.
use Rattle.std.specs.Prelude.{Bool, cond, ◌&&◌, [], ℕ, ◌+◌, ◌%◌, eqb}
use Rattle.lines.specs.Bytes.{Bytes}
use Rattle.lines.specs.Printing.{decimal}
use Rattle.lines.specs.Sheet.{space}

-- whether the digits have begun and none is left: 0 alone has a digit
unfoldable pub no_digit : (begun : Bool) → ℕ → Bool
no_digit begun rest = begun && eqb rest 0

-- the digits that are left
unfoldable pub digits_left : (begun : Bool) → ℕ → Bytes
digits_left begun rest = cond (no_digit begun rest) [] (decimal rest)

-- the last of them, or a space where none is left
unfoldable pub column_byte : (begun : Bool) → ℕ → ℕ
column_byte begun rest = cond (no_digit begun rest) space (48 + rest % 10)

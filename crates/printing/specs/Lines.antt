-- How long a line can be.
use Rattle.std.specs.Prelude.{ℕ, ◌+◌, ◌*◌}

-- `LINE_NUMBERS`: the most numbers of a line, as 'B,slot,ticket,grade,number given up,shortfall' has
unfoldable pub line_numbers : ℕ
line_numbers = 5

-- `LINE_DIGITS`: the most digits of a number of 64 bits
unfoldable pub line_digits : ℕ
line_digits = 20

-- `LINE_ROOM`: a letter, the numbers each behind a comma, and a line end
unfoldable pub room : ℕ
unfolding line_numbers line_digits
room = 1 + line_numbers * (1 + line_digits) + 1

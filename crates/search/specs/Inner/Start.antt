-- The start of a grade as a number.
use Rattle.std.specs.Prelude.{Bool, List, ℕ, ◌+◌, ◌-◌, ◌*◌, ◌^◌, ◌≤◌}
use Rattle.rule.specs.Grade.{bits}

-- a grade of depth d can start with the number `start`, with `left` bits left
abbrev pub Start : (d start left : ℕ) → Type 0
Start d start left = (start + 1) * 2 ^ left ≤ 2 ^ d

-- the bits of that start
abbrev pub first_bits : (d start left : ℕ) → List Bool
first_bits d start left = bits (d - left) start

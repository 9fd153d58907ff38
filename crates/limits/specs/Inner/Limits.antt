-- The number of a board that is not in its limits, for calls that look at these alone.
use Rattle.std.specs.Prelude.{not, [], ◌∷◌, ℕ, zero, suc}
use Rattle.board.specs.declared.Board.{Board}
use Rattle.board.specs.Rows.{◌if◌, first_given}
use Rattle.board.specs.Held.{slot_of}
use Rattle.soundness.specs.Inner.Walk.{in_limits}

-- a number, and another where it is 0
infixr 20 ◌or_else◌
unfoldable pub ◌or_else◌ : ℕ → ℕ → ℕ
zero or_else m = m
(suc n) or_else m = suc n

-- 2 for a board that is not in its limits
unfoldable pub limits_number : Board → ℕ
limits_number b = first_given (2 if not (in_limits b.depth (slot_of b) b.count) ∷ [])

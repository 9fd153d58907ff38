-- The number of grades that `Board::grade_count` answers for a depth in its range.
use mathlib.Core.Path.{◌≡◌, ap}
use Prim.Native.Nat.{ℕ, ◌^◌, ◌≤◌, min}
use native.Mathlib.Omega.{arith}
use Rattle.board.specs.Limits.{deepest}

pub grades_of : (d : ℕ) → d ≤ deepest → 2 ^ min d deepest ≡ 2 ^ d
grades_of d h = let e : min d deepest ≡ d = omega arith in ap (λ k. 2 ^ k) e

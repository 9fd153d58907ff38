-- The shortfall in a closing's answer.
use mathlib.Core.Path.{◌≡◌, refl}
use Prim.Native.Nat.{ℕ, zero, suc}
use native.Mathlib.Omega.{arith}
use Rattle.board.specs.declared.Board.{Board}
use Rattle.board.specs.Close.{close_number, closed_with, closed_if, closed, shortfall_of}

-- a closing that is not refused carries that of the board before the bake
pub shortfall_carried : (b : Board) (lent : ℕ) → (closed b lent).refusal ≡ 0 → (closed b lent).shortfall ≡ shortfall_of b
unfolding closed closed_if closed_with
shortfall_carried b lent h = go (close_number b lent) h
  where
    go : (n : ℕ) → (closed_if n b).refusal ≡ 0 → (closed_if n b).shortfall ≡ shortfall_of b
    go zero h = refl
    go (suc n) h = absurd (omega arith)

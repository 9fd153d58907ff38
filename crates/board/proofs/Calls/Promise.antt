-- The answer to what can be promised: its number, and what it carries where that is 0.
use mathlib.Core.Path.{◌≡◌, refl, sym, ap, ◌∙◌}
use mathlib.Core.Bool.{true, not}
use Prim.Native.Nat.{ℕ, zero, suc}
use borrow.Author.Tests.{not-false}
use Rattle.board.specs.declared.Board.{Board}
use Rattle.board.specs.Rows.{first_given, promise_rows}
use Rattle.board.specs.Held.{slot_of}
use Rattle.board.specs.Sound.{sound}
use Rattle.board.specs.Promise.{promise_number, promise_of, promised_with, promised}
use Rattle.board.proofs.Calls.Rows.{row_passed, row_skipped}

pub promise_number_sound : (b : Board) → sound b ≡ true → promise_number b ≡ first_given (promise_rows (slot_of b))
unfolding promise_number
promise_number_sound b s = row_skipped 2 (not (sound b)) _ (ap not s)

pub promised_refusal : (n w : ℕ) → (promised_with n w).refusal ≡ n
unfolding promised_with
promised_refusal zero w = refl
promised_refusal (suc n) w = refl

-- an answer that is not refused carries what can be promised, and the board is sound
module _ (b : Board) (h : (promised b).refusal ≡ 0) where
  number_none : promise_number b ≡ 0
  unfolding promised
  number_none = sym (promised_refusal (promise_number b) (promise_of b)) ∙ h

  pub promise_carried : (promised b).laxity.0 ≡ promise_of b
  unfolding promised promised_with
  promise_carried = rw number_none refl

  pub promise_asks_sound : sound b ≡ true
  unfolding promise_number
  promise_asks_sound = not-false (sound b) (row_passed 1 _ _ number_none).0

-- What can still be promised. 02, Six: 'A customer telephones with one rack more.' 'The board doesn't change': the answer has none.
use Rattle.std.specs.Prelude.{not, ◌∷◌, ℕ, zero, suc}
use Rattle.rule.specs.Promise.{least_promised}
use Rattle.board.specs.declared.Board.{Board}
use Rattle.board.specs.declared.Laxity.{Laxity}
use Rattle.board.specs.declared.Promised.{Promised}
use Rattle.board.specs.Limits.{longest_laxity}
use Rattle.board.specs.Rows.{◌if◌, first_given, promise_rows}
use Rattle.board.specs.Held.{slot_of, held}
use Rattle.board.specs.Sound.{sound}

-- the number of its refusal, 0 for none: rows 2 and 3
unfoldable pub promise_number : Board → ℕ
promise_number b = first_given (2 if not (sound b) ∷ promise_rows (slot_of b))

-- 02, Eight: 'The promise line looks at 1 to 24', with all jobs on the board, whichever slot they were admitted in
unfoldable pub promise_of : Board → ℕ
promise_of b = least_promised longest_laxity (slot_of b) (held b)

abbrev pub laxity_number : ℕ → Laxity
laxity_number w = record { 0 = w }

-- 'whatever else the answer holds besides the number is then 0'
abbrev pub promised_refused : (number : ℕ) → Promised
promised_refused n = record { refusal = n; laxity = laxity_number 0 }

-- the answer by the number of the refusal
unfoldable pub promised_with : (number laxity : ℕ) → Promised
promised_with zero w = record { refusal = 0; laxity = laxity_number w }
promised_with (suc n) w = promised_refused (suc n)

unfoldable pub promised : Board → Promised
promised b = promised_with (promise_number b) (promise_of b)

-- What the inner call answers: it looks at the limits of a board and not along it. It is total, and on a sound board it is 01's call
-- (proofs/OnSound). Only promises of code cite these definitions.
use Rattle.std.specs.Prelude.{cond, [], ◌∷◌, ℕ, zero, suc, ◌^◌, ◌≤◌, ◌<◌, leb, eqb, get_or}
use Rattle.board.specs.declared.Board.{Board}
use Rattle.board.specs.declared.Admitted.{Admitted}
use Rattle.board.specs.Limits.{longest_laxity, places_held, last_slot, deepest}
use Rattle.board.specs.Rows.{◌if◌, first_given, admit_rows}
use Rattle.board.specs.Held.{slot_of, blank}
use Rattle.board.specs.Admit.{admitted_if}
use Rattle.limits.specs.Inner.Limits.{◌or_else◌, limits_number}

-- how many of the first n places, from the last of them back to one of another slot, were admitted in the board's slot
unfoldable pub in_slot_before : Board → ℕ → ℕ
in_slot_before b zero = 0
in_slot_before b (suc n) = cond (eqb (get_or b.places n blank).admitted.0 (slot_of b)) (suc (in_slot_before b n)) 0

-- then rows 3 to 7, then 2 for a board without a free place
unfoldable pub admit_number_in_limits : Board → (ticket laxity grade : ℕ) → ℕ
admit_number_in_limits b t w g =
    limits_number b
    or_else first_given (admit_rows (slot_of b) b.highest (in_slot_before b b.count) b.depth t w g)
    or_else first_given (2 if leb places_held b.count ∷ [])

unfoldable pub admitted_in_limits : Board → (ticket laxity grade : ℕ) → Admitted
admitted_in_limits b t w g = admitted_if (admit_number_in_limits b t w g) b t w g

-- what is known of a board and a job where no number is given
pub record LetIn (b : Board) (laxity grade : ℕ) : Type 0 where
  pub in_book : slot_of b ≤ suc last_slot
  pub some_laxity : 1 ≤ laxity
  pub short : laxity ≤ longest_laxity
  pub graded : grade < 2 ^ deepest
  pub free : b.count < places_held

-- What admitting answers and leaves behind.
use Rattle.std.specs.Prelude.{not, ◌∷◌, ℕ, zero, suc, ◌+◌, ◌-◌, set}
use Rattle.board.specs.declared.Board.{Board}
use Rattle.board.specs.declared.Admitted.{Admitted}
use Rattle.board.specs.Rows.{◌if◌, first_given, admit_rows}
use Rattle.board.specs.Held.{slot_of, slot_number, in_slot}
use Rattle.board.specs.Sound.{sound}

-- the number of an admitting's refusal, 0 for none: rows 2 to 7
unfoldable pub admit_number : Board → (ticket laxity grade : ℕ) → ℕ
admit_number b t w g =
    first_given (2 if not (sound b) ∷ admit_rows (slot_of b) b.highest (in_slot b) b.depth t w g)

-- the job's last slot
unfoldable pub last_of : Board → ℕ → ℕ
last_of b w = slot_of b + w - 1

-- the board with the job in the first free place
unfoldable pub with_job : Board → (ticket laxity grade : ℕ) → Board
with_job b t w g =
    record {
      depth = b.depth;
      slot = b.slot;
      highest = t;
      count = b.count + 1;
      places = set b.places b.count (record { ticket = t; admitted = b.slot; last = slot_number (last_of b w); grade = g });
    }

-- 'a refusal hands back the board [..] unchanged; whatever else the answer holds besides the number is then 0'
unfoldable pub admitted_if : ℕ → Board → (ticket laxity grade : ℕ) → Admitted
admitted_if zero b t w g = record { refusal = 0; last = slot_number (last_of b w); board = with_job b t w g }
admitted_if (suc n) b t w g = record { refusal = suc n; last = slot_number 0; board = b }

unfoldable pub admitted : Board → (ticket laxity grade : ℕ) → Admitted
admitted b t w g = admitted_if (admit_number b t w g) b t w g

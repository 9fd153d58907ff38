-- What withdrawing answers and leaves behind. 02, Seven: 'A café cancels a rack that is already waiting.'
use Rattle.std.specs.Prelude.{not, ◌∷◌, ℕ, zero, suc, eqb}
use Rattle.rule.specs.Job.{Job, with_ticket}
use Rattle.rule.specs.Bake.{grade_of}
use Rattle.board.specs.declared.Board.{Board}
use Rattle.board.specs.declared.Withdrawn.{Withdrawn}
use Rattle.board.specs.Rows.{◌if◌, first_given, withdraw_rows}
use Rattle.board.specs.Held.{slot_of, held, thinned}
use Rattle.board.specs.Sound.{sound}

-- the number of a withdrawal's refusal, 0 for none: rows 2, 3 and 17
unfoldable pub withdraw_number : Board → (ticket : ℕ) → ℕ
withdraw_number b t = first_given (2 if not (sound b) ∷ withdraw_rows (slot_of b) (held b) t)

-- 'takes it off': the other jobs, in the same slot. 'Slot and highest ticket go on as they were'
unfoldable pub without_ticket : Board → (ticket : ℕ) → Board
without_ticket b t = thinned b (slot_of b) (λ (r : Job). not (eqb r.ticket t))

-- 'a refusal hands back the board [..] unchanged; whatever else the answer holds besides the number is then 0'
abbrev pub withdrawn_refused : (number : ℕ) → Board → Withdrawn
withdrawn_refused n b = record { refusal = n; grade = 0; board = b }

-- the answer by the number of the refusal; the grade is that of the job taken off, for the tally
unfoldable pub withdrawn_if : (number : ℕ) → Board → (ticket : ℕ) → Withdrawn
withdrawn_if zero b t = record { refusal = 0; grade = grade_of (with_ticket t (held b)); board = without_ticket b t }
withdrawn_if (suc n) b t = withdrawn_refused (suc n) b

unfoldable pub withdrawn : Board → (ticket : ℕ) → Withdrawn
withdrawn b t = withdrawn_if (withdraw_number b t) b t

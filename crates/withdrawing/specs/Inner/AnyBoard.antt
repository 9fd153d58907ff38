-- A withdrawal of which soundness is no part.
use Rattle.std.specs.Prelude.{ℕ, Result, Ok, Err}
use Rattle.board.specs.declared.Board.{Board}
use Rattle.board.specs.declared.Withdrawn.{Withdrawn}
use Rattle.board.specs.declared.refusal.Refusal.{Refusal}
use Rattle.board.specs.Refusals.{number_of}
use Rattle.board.specs.Rows.{first_given, withdraw_rows}
use Rattle.board.specs.Held.{slot_of, held}
use Rattle.board.specs.Withdraw.{without_ticket, withdrawn_refused, withdrawn_if}

-- what a withdrawal answers, from the grade of the job taken off or its refusal, and the board that it leaves
abbrev pub withdrawn_of : Result ℕ Refusal → Board → Withdrawn
withdrawn_of (Ok g) b = record { refusal = 0; grade = g; board = b }
withdrawn_of (Err r) b = withdrawn_refused (number_of r) b

-- the board that it leaves: without the job, or where it is refused as it was
abbrev pub left_by : Result ℕ Refusal → Board → (ticket : ℕ) → Board
left_by (Ok g) b t = without_ticket b t
left_by (Err r) b t = b

-- by rows 3 and 17 alone; on a sound board this is 02's withdrawal (proofs/OnSound)
unfoldable pub withdrawn_by_rows : Board → (ticket : ℕ) → Withdrawn
withdrawn_by_rows b t = withdrawn_if (first_given (withdraw_rows (slot_of b) (held b) t)) b t

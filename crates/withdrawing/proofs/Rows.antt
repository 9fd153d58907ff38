-- What rows 3 and 17 make of a withdrawal.
use mathlib.Core.Path.{◌≡◌}
use mathlib.Core.Option.{none, some}
use Prim.Native.Nat.{ℕ, suc}
use borrow.Author.Tests.{eq-eqb, ne_eqb}
use Rattle.rule.specs.Job.{Job, with_ticket}
use Rattle.rule.specs.Bake.{grade_of}
use Rattle.board.specs.declared.Board.{Board}
use Rattle.board.specs.Limits.{last_slot}
use Rattle.board.specs.Rows.{◌if◌, first_given, not_to_withdraw, withdraw_rows}
use Rattle.board.specs.Held.{slot_of, held}
use Rattle.board.specs.Withdraw.{without_ticket, withdrawn_refused, withdrawn_if}
use Rattle.withdrawing.specs.Inner.AnyBoard.{withdrawn_by_rows}

module _ (b : Board) (t : ℕ) where
  pub book_ended : slot_of b ≡ suc last_slot → withdrawn_refused 3 b ≡ withdrawn_by_rows b t
  unfolding withdrawn_by_rows withdrawn_if withdraw_rows first_given ◌if◌
  book_ended e = simp (eq-eqb _ _ e)

  module _ (going : slot_of b ≡ suc last_slot → ⊥) where
    pub not_there : with_ticket t (held b) ≡ none → withdrawn_refused 17 b ≡ withdrawn_by_rows b t
    unfolding withdrawn_by_rows withdrawn_if withdraw_rows first_given ◌if◌ not_to_withdraw
    not_there e = simp (ne_eqb _ _ going, e)

    module _ (r : Job) (there : with_ticket t (held b) ≡ some r) where
      pub of_this_slot : r.admitted ≡ slot_of b → withdrawn_refused 17 b ≡ withdrawn_by_rows b t
      unfolding withdrawn_by_rows withdrawn_if withdraw_rows first_given ◌if◌ not_to_withdraw
      of_this_slot e = simp (ne_eqb _ _ going, there, eq-eqb _ _ e)

      pub taken_off : (r.admitted ≡ slot_of b → ⊥) → record { refusal = 0; grade = r.grade; board = without_ticket b t } ≡ withdrawn_by_rows b t
      unfolding withdrawn_by_rows withdrawn_if withdraw_rows first_given ◌if◌ not_to_withdraw grade_of
      taken_off older = simp (ne_eqb _ _ going, there, ne_eqb _ _ older)

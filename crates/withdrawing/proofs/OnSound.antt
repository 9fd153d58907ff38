-- On a sound board the rows alone give 02's withdrawal.
use mathlib.Core.Path.{◌≡◌, sym, ap, ◌∙◌}
use mathlib.Core.Bool.{true, false}
use Prim.Native.Nat.{ℕ}
use Rattle.board.specs.declared.Board.{Board}
use Rattle.board.specs.declared.Withdrawn.{Withdrawn}
use Rattle.board.specs.Rows.{◌if◌, first_given}
use Rattle.board.specs.Sound.{sound}
use Rattle.board.specs.Withdraw.{withdraw_number, withdrawn_refused, withdrawn_if, withdrawn}
use Rattle.board.proofs.Calls.SoundAfter.{withdraw_number_sound}
use Rattle.withdrawing.specs.Inner.AnyBoard.{withdrawn_by_rows}

pub withdraw_on_sound : (b : Board) (t : ℕ) → sound b ≡ true → withdrawn_by_rows b t ≡ withdrawn b t
unfolding withdrawn_by_rows withdrawn
withdraw_on_sound b t s = ap (λ n. withdrawn_if n b t) (sym (withdraw_number_sound b t s))

-- row 2
pub withdraw_unsound : (b : Board) (t : ℕ) (x : Withdrawn) → sound b ≡ false → x ≡ withdrawn_refused 2 b → x ≡ withdrawn b t
unfolding withdrawn withdraw_number withdrawn_if first_given ◌if◌
withdraw_unsound b t x e h = h ∙ simp e

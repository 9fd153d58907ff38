-- A call on an open board that is refused leaves it as it was.
use mathlib.Core.Path.{◌≡◌, refl}
use Prim.Native.Nat.{ℕ, zero, suc}
use Rattle.board.specs.declared.Board.{Board}
use Rattle.board.specs.declared.Admitted.{Admitted}
use Rattle.board.specs.declared.Closed.{Closed}
use Rattle.board.specs.Admit.{admit_number, admitted_if, admitted}
use Rattle.board.specs.Close.{bakes, close_number, closed_with, closed_if, closed}

admitted_if_kept : (n : ℕ) (b : Board) (t w g : ℕ) → ((admitted_if n b t w g).refusal ≡ 0 → ⊥) → (admitted_if n b t w g).board ≡ b
unfolding admitted_if
admitted_if_kept zero b t w g h = absurd (h refl)
admitted_if_kept (suc n) b t w g h = refl

pub admitted_kept : (b : Board) (t w g : ℕ) (a : Admitted) → a ≡ admitted b t w g → (a.refusal ≡ 0 → ⊥) → a.board ≡ b
unfolding admitted
admitted_kept b t w g a e h = rw e (admitted_if_kept (admit_number b t w g) b t w g (rw e at h))

closed_with_kept : (n : ℕ) (b : Board) (l s : ℕ) → ((closed_with n b (bakes b) l s).refusal ≡ 0 → ⊥) → (closed_with n b (bakes b) l s).board ≡ b
unfolding closed_with
closed_with_kept zero b l s h = absurd (h refl)
closed_with_kept (suc n) b l s h = refl

pub closed_kept : (b : Board) (lent : ℕ) (c : Closed) → c ≡ closed b lent → (c.refusal ≡ 0 → ⊥) → c.board ≡ b
unfolding closed closed_if
closed_kept b lent c e h = rw e (closed_with_kept (close_number b lent) b _ _ (rw e at h))

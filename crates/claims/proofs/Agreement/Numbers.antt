-- Where board and book agree, the rows give the same number of the one as of the other.
use mathlib.Core.Path.{◌≡◌, sym, ap, ap₂, ◌∙◌}
use Prim.Native.Nat.{ℕ}
use Rattle.books.specs.Book.{present, highest, jobs}
use Rattle.board.specs.declared.Board.{Board}
use Rattle.board.specs.Rows.{first_given, admit_rows, close_rows, withdraw_rows}
use Rattle.board.specs.Held.{slot_of, held, in_slot}
use Rattle.board.specs.Admit.{admit_number}
use Rattle.board.specs.Close.{close_number}
use Rattle.board.specs.Withdraw.{withdraw_number}
use Rattle.board.proofs.Soundness.Facts.{admitted_in}
use Rattle.board.proofs.Calls.SoundAfter.{admit_number_sound, close_number_sound, withdraw_number_sound}
use Rattle.claims.specs.DayBook.{Day, waiting, entered_now}
use Rattle.claims.proofs.Agreement.Agree.{Agree, waiting_held}

module _ {d s : ℕ} {b : Board} {D : Day} (a : Agree d s b D) where
  same_slot : present D.book ≡ slot_of b
  same_slot = a.book_slot ∙ sym a.slot

  same_entered : entered_now D.book ≡ in_slot b
  unfolding entered_now in_slot
  same_entered =
      ap (λ k. admitted_in k (jobs D.book)) a.book_slot ∙ a.same_intake ∙ ap (λ k. admitted_in k (held b)) (sym a.slot)

  pub same_admit : (t w g : ℕ) → first_given (admit_rows (present D.book) (highest D.book) (entered_now D.book) d t w g) ≡ admit_number b t w g
  same_admit t w g =
      ap (λ k. first_given (admit_rows k (highest D.book) (entered_now D.book) d t w g)) same_slot
      ∙ ap (λ h. first_given (admit_rows (slot_of b) h (entered_now D.book) d t w g)) a.same_highest
      ∙ ap₂ (λ n e. first_given (admit_rows (slot_of b) b.highest n e t w g)) same_entered (sym a.depth)
      ∙ sym (admit_number_sound b t w g a.is_sound)

  pub same_close : (lent : ℕ) → first_given (close_rows (present D.book) lent) ≡ close_number b lent
  same_close lent = ap (λ k. first_given (close_rows k lent)) same_slot ∙ sym (close_number_sound b lent a.is_sound)

  pub same_withdraw : (t : ℕ) → first_given (withdraw_rows (present D.book) (waiting D) t) ≡ withdraw_number b t
  same_withdraw t = ap₂ (λ k A. first_given (withdraw_rows k A t)) same_slot (waiting_held a) ∙ sym (withdraw_number_sound b t a.is_sound)

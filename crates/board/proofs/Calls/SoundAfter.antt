-- Admitting, closing and withdrawing keep a board sound.
use mathlib.Core.Path.{◌≡◌, refl, sym, ap, ◌∙◌}
use mathlib.Core.Bool.{true, not}
use Prim.Native.Nat.{ℕ, zero, suc, ◌+◌}
use native.Mathlib.Omega.{arith}
use lib.Dec.{ltb, eqb}
use borrow.Author.Tests.{ltb-true}
use Rattle.lists.proofs.Tests.{and_left}
use Rattle.rule.specs.Bake.{stays, ticket_of}
use Rattle.board.specs.declared.Board.{Board}
use Rattle.board.specs.Limits.{last_slot}
use Rattle.board.specs.Rows.{first_given, admit_rows, close_rows, withdraw_rows}
use Rattle.board.specs.Held.{slot_of, held, in_slot}
use Rattle.board.specs.Sound.{sound}
use Rattle.board.specs.Admit.{admit_number, with_job, admitted_if, admitted}
use Rattle.board.specs.Close.{close_number, moved_on_with, closed_with, closed_if, bakes, closed}
use Rattle.board.specs.Withdraw.{withdraw_number, without_ticket, withdrawn_if, withdrawn}
use Rattle.board.proofs.Soundness.Apart.{facts}
use Rattle.board.proofs.Soundness.Together.{all_sound}
use Rattle.board.proofs.Calls.Rows.{row_skipped, admits, closes}
use Rattle.board.proofs.Calls.SoundAfterAdmitting.{after_admitting}
use Rattle.board.proofs.Calls.SoundAfterThinning.{after_thinning}

-- on a sound board row 2 is never given
pub admit_number_sound : (b : Board) (t w g : ℕ) → sound b ≡ true
    → admit_number b t w g ≡ first_given (admit_rows (slot_of b) b.highest (in_slot b) b.depth t w g)
unfolding admit_number
admit_number_sound b t w g s = row_skipped 2 (not (sound b)) _ (ap not s)

pub close_number_sound : (b : Board) (lent : ℕ) → sound b ≡ true → close_number b lent ≡ first_given (close_rows (slot_of b) lent)
unfolding close_number
close_number_sound b lent s = row_skipped 2 (not (sound b)) _ (ap not s)

pub withdraw_number_sound : (b : Board) (t : ℕ) → sound b ≡ true → withdraw_number b t ≡ first_given (withdraw_rows (slot_of b) (held b) t)
unfolding withdraw_number
withdraw_number_sound b t s = row_skipped 2 (not (sound b)) _ (ap not s)

pub with_job_sound : (b : Board) (t w g : ℕ) → sound b ≡ true → admit_number b t w g ≡ 0 → sound (with_job b t w g) ≡ true
with_job_sound b t w g s e =
    all_sound (with_job b t w g)
    (after_admitting b t w g (facts b s) (admits (slot_of b) b.highest (in_slot b) b.depth t w g (sym (admit_number_sound b t w g s) ∙ e)))

pub moved_on_sound : (b : Board) (t : ℕ) → sound b ≡ true → (slot_of b ≡ suc last_slot → ⊥) → sound (moved_on_with b t) ≡ true
unfolding moved_on_with stays
moved_on_sound b t s going =
    let f = facts b s in
    all_sound (moved_on_with b t)
    (after_thinning b f (slot_of b + 1) (stays (slot_of b) t) (omega arith) (omega (arith, f.to_last, going))
    (λ r m h. omega (arith, ltb-true (slot_of b) r.last (and_left (ltb (slot_of b) r.last) (not (eqb r.ticket t)) h))))

pub without_ticket_sound : (b : Board) (t : ℕ) → sound b ≡ true → sound (without_ticket b t) ≡ true
unfolding without_ticket
without_ticket_sound b t s =
    let f = facts b s in
    all_sound (without_ticket b t)
    (after_thinning b f _ _ (omega arith) (omega (arith, f.to_last)) (λ r m h. omega (arith, (f.each r m).in_date)))

-- a closing that is not refused
pub close_going : (b : Board) (lent : ℕ) → sound b ≡ true → close_number b lent ≡ 0 → slot_of b ≡ suc last_slot → ⊥
close_going b lent s e = (closes (slot_of b) lent (sym (close_number_sound b lent s) ∙ e)).going

-- soundness is kept
pub admitted_sound : (b : Board) (t w g : ℕ) → sound b ≡ true → sound (admitted b t w g).board ≡ true
unfolding admitted admitted_if
admitted_sound b t w g s = go (admit_number b t w g) refl
  where
    go : (n : ℕ) → admit_number b t w g ≡ n → sound (admitted_if n b t w g).board ≡ true
    go zero e = with_job_sound b t w g s e
    go (suc n) e = s

pub closed_sound : (b : Board) (lent : ℕ) → sound b ≡ true → sound (closed b lent).board ≡ true
unfolding closed closed_if closed_with
closed_sound b lent s = go (close_number b lent) refl
  where
    go : (n : ℕ) → close_number b lent ≡ n → sound (closed_if n b).board ≡ true
    go zero e = moved_on_sound b (ticket_of (bakes b)) s (close_going b lent s e)
    go (suc n) e = s

pub withdrawn_sound : (b : Board) (t : ℕ) → sound b ≡ true → sound (withdrawn b t).board ≡ true
unfolding withdrawn withdrawn_if
withdrawn_sound b t s = go (withdraw_number b t)
  where
    go : (n : ℕ) → sound (withdrawn_if n b t).board ≡ true
    go zero = without_ticket_sound b t s
    go (suc n) = s

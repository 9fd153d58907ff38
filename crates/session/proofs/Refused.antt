-- A call on an open board that is refused: the session is as it was, and the answer is the refusal's number.
use mathlib.Core.Path.{◌≡◌, refl}
use mathlib.Core.Bool.{true}
use Prim.Native.Nat.{ℕ}
use Rattle.std.specs.Prelude.{Err}
use Rattle.board.specs.declared.Tally.{Tally}
use Rattle.board.specs.declared.refusal.Refusal.{Refusal}
use Rattle.board.specs.Refusals.{number_of}
use Rattle.board.specs.Limits.{places_held}
use Rattle.board.specs.Sound.{sound}
use Rattle.board.specs.Open.{opened_as, opened}
use Rattle.board.specs.Admit.{admitted}
use Rattle.board.specs.declared.Board.{Board}
use Rattle.board.specs.Close.{closed}
use Rattle.board.specs.Promise.{promised}
use Rattle.board.specs.Withdraw.{withdrawn}
use Rattle.lines.specs.Session.{step_open, step_admit, step_close, step_promise, step_withdraw}
use Rattle.answers.specs.declared.Answer.TheVariants.{Refused}
use Rattle.packing.specs.declared.Packed.{Packed}
use Rattle.packing.specs.Inner.Packed.{board_of}
use Rattle.admitting.specs.Inner.Answer.{admitted_answer}
use Rattle.board.proofs.Refusals.{some_number}
use Rattle.closing.specs.Inner.Answered.{closed_answer}
use Rattle.promising.specs.Inner.Seen.{promised_as}
use Rattle.withdrawing.specs.Inner.AnyBoard.{withdrawn_of}
use Rattle.session.specs.declared.Day.{Day}
use Rattle.session.specs.Inner.Days.{session_of, GoodDay, open_day, DidAlone}
use Rattle.session.proofs.Kept.{admitted_kept, closed_kept}
use Rattle.session.proofs.Steps.{did_as, refusal_did, kept_did, open_refused, admit_refused, promise_refused, withdraw_refused}
use Rattle.session.proofs.Closings.{close_refused}

module _ (r : Refusal) where
  pub open_err : (day : Day) (d : ℕ) → GoodDay day → opened_as (Err r) ≡ opened d
      → DidAlone day (step_open (session_of day).board d) (record { day = day; answer = Refused (number_of r); listed = 0 })
  open_err day d g e T G = did_as (open_refused day d (opened_as (Err r)) e (some_number r)) (refusal_did day day (number_of r) g refl T G)

  module _ (p q : Packed) (y : Tally) (s : sound (board_of p) ≡ true) where
    pub admit_err : (t w g : ℕ) → admitted_answer (Err r) (board_of q) ≡ admitted (board_of p) t w g
        → DidAlone (open_day p y) (step_admit (board_of p) t w g) (record { day = open_day q y; answer = Refused (number_of r); listed = 0 })
    admit_err t w g e =
        let a = admitted_answer (Err r) (board_of q) in
        kept_did p q y (number_of r) _ s (admitted_kept _ t w g a e (some_number r)) (admit_refused (board_of p) t w g a e (some_number r))

    pub close_err : closed_answer (Err r) (board_of q) ≡ closed (board_of p) places_held
        → DidAlone (open_day p y) (step_close (board_of p)) (record { day = open_day q y; answer = Refused (number_of r); listed = 0 })
    unfolding closed_answer
    close_err e =
        let a = closed_answer (Err r) (board_of q) in
        kept_did p q y (number_of r) _ s (closed_kept _ _ a e (some_number r)) (close_refused p y a e (some_number r))

  module _ (p : Packed) (y : Tally) (s : sound (board_of p) ≡ true) where
    pub promise_err : promised_as (Err r) ≡ promised (board_of p)
        → DidAlone (open_day p y) (step_promise (board_of p)) (record { day = open_day p y; answer = Refused (number_of r); listed = 0 })
    promise_err e = kept_did p p y (number_of r) _ s refl (promise_refused (board_of p) (promised_as (Err r)) e (some_number r))

    pub withdraw_err : (b : Board) (t : ℕ) → withdrawn_of (Err r) b ≡ withdrawn (board_of p) t
        → DidAlone (open_day p y) (step_withdraw (board_of p) t) (record { day = open_day p y; answer = Refused (number_of r); listed = 0 })
    withdraw_err b t e = kept_did p p y (number_of r) _ s refl (withdraw_refused (board_of p) t (withdrawn_of (Err r) b) e (some_number r))

-- A line refused, a board opened, a job admitted or withdrawn, and what can be promised: the day after it, and the answer.
use mathlib.Core.Path.{◌≡◌, refl, sym, ap, ◌∙◌, subst}
use mathlib.Core.Bool.{true}
use mathlib.Core.List.{List, [], ◌∷◌}
use mathlib.Core.Option.{some}
use Prim.Native.Nat.{ℕ}
use native.Mathlib.Omega.{arith}
use borrow.Author.Tests.{eq-eqb, ne_eqb}
use Rattle.lists.proofs.Tests.{cond_true, cond_false}
use Rattle.board.specs.declared.Board.{Board}
use Rattle.board.specs.declared.Tally.{Tally}
use Rattle.board.specs.declared.Opened.{Opened}
use Rattle.board.specs.declared.Admitted.{Admitted}
use Rattle.board.specs.declared.Promised.{Promised}
use Rattle.board.specs.declared.Withdrawn.{Withdrawn}
use Rattle.board.specs.Sound.{sound}
use Rattle.board.specs.Open.{opened}
use Rattle.board.specs.Admit.{admitted}
use Rattle.board.specs.Promise.{promised}
use Rattle.board.specs.Withdraw.{withdrawn}
use Rattle.board.specs.Events.{admitted_kind, withdrawn_kind, event, admit_events, withdraw_events, fed}
use Rattle.board.proofs.Calls.SoundAfter.{admitted_sound, withdrawn_sound}
use Rattle.board.proofs.Calls.SoundAfterOpening.{opened_sound}
use Rattle.board.proofs.Tallies.Fed.{let_through}
use Rattle.lines.specs.Session.{Session, an_opening, an_admitting, a_promise, a_withdrawal, Step, step_refused, step_open, step_admit, step_promise, step_withdraw, session_after}
use Rattle.lines.proofs.NeverMet.MayMeet.{opened_shallow}
use Rattle.answers.specs.declared.Answer.TheVariants.{Refused, Opened as BoardOpened, Admitted as JobAdmitted, Promised as WaitPromised, Withdrawn as JobWithdrawn}
use Rattle.answers.specs.Printed.{answer_of}
use Rattle.packing.specs.declared.Packed.{Packed}
use Rattle.packing.specs.Inner.Packed.{board_of}
use Rattle.session.specs.declared.Day.{Day}
use Rattle.session.specs.Inner.Days.{session_of, GoodDay, open_day, SteppedDay, Did, DidAlone}

abbrev pub open_session : Board → Tally → Session
open_session b t = record { board = some b; tally = t }

pub did_as : {day : Day} {a b : Step} {r : SteppedDay} {T G : List ℕ} → a ≡ b → Did day b r T G → Did day a r T G
did_as {day} {a} {b} {r} {T} {G} e d = subst (λ (x : Step). Did day x r T G) (sym e) d

-- a line that is refused: the day has the session that it had
pub refusal_did : (day after : Day) (n : ℕ) → GoodDay after → session_of after ≡ session_of day
    → DidAlone day (step_refused (session_of day).board n) (record { day = after; answer = Refused n; listed = 0 })
unfolding step_refused session_after fed answer_of
refusal_did day after n g e T G = record { good = g; session = e; few = omega arith; answer = refl }

-- so while a board is open, which the call leaves as it was
pub kept_did : (p q : Packed) (t : Tally) (n : ℕ) (a : Step) → sound (board_of p) ≡ true → board_of q ≡ board_of p → a ≡ step_refused (some (board_of p)) n
    → DidAlone (open_day p t) a (record { day = open_day q t; answer = Refused n; listed = 0 })
unfolding session_of
kept_did p q t n a s e f T G =
    did_as f (refusal_did (open_day p t) (open_day q t) n (rw e s) (ap (λ b. open_session b t) e) T G)

module _ (day : Day) (d : ℕ) (o : Opened) (e : o ≡ opened d) where
  pub open_refused : (o.refusal ≡ 0 → ⊥) → step_open (session_of day).board d ≡ step_refused (session_of day).board o.refusal
  unfolding step_open
  open_refused h = rw (← e) (cond_false _ _ _ (ne_eqb o.refusal 0 h))

  open_step : o.refusal ≡ 0 → step_open (session_of day).board d ≡ record { answer = an_opening d; board = some o.board; events = [] }
  unfolding step_open
  open_step h = rw (← e) (cond_true _ _ _ (eq-eqb o.refusal 0 h))

  pub opened_is_sound : o.refusal ≡ 0 → sound o.board ≡ true
  opened_is_sound h = rw e (opened_sound d (opened_shallow d (rw e at h)))

  pub open_did : (p : Packed) → o.refusal ≡ 0 → board_of p ≡ o.board
      → DidAlone day (step_open (session_of day).board d) (record { day = open_day p day.tally; answer = BoardOpened d; listed = 0 })
  unfolding answer_of session_of session_after fed
  open_did p h q T G =
      did_as (open_step h)
      (record { good = rw q (opened_is_sound h); session = ap (λ b. open_session b day.tally) q; few = omega arith; answer = refl })

pub admit_refused : (b : Board) (t w g : ℕ) (a : Admitted) → a ≡ admitted b t w g → (a.refusal ≡ 0 → ⊥) → step_admit b t w g ≡ step_refused (some b) a.refusal
unfolding step_admit
admit_refused b t w g a e h = rw (← e) (cond_false _ _ _ (ne_eqb a.refusal 0 h))

module _ (p : Packed) (y : Tally) (s : sound (board_of p) ≡ true) (t w g : ℕ) (a : Admitted) (e : a ≡ admitted (board_of p) t w g) where
  abbrev b : Board
  b = board_of p

  admit_step : a.refusal ≡ 0
      → step_admit b t w g ≡ record { answer = an_admitting t a.last.0; board = some a.board; events = admit_events b t w g }
  unfolding step_admit
  admit_step h = rw (← e) (cond_true _ _ _ (eq-eqb a.refusal 0 h))

  one_fed : a.refusal ≡ 0 → fed y (admit_events b t w g) ≡ fed y (event admitted_kind g ∷ [])
  unfolding admit_events
  one_fed h = rw (← e) (ap (fed y) (let_through a.refusal _ h))

  pub admit_did : (q : Packed) (z : Tally) → a.refusal ≡ 0 → a.board ≡ board_of q → z ≡ fed y (event admitted_kind g ∷ [])
      → DidAlone (open_day p y) (step_admit b t w g) (record { day = open_day q z; answer = JobAdmitted t a.last; listed = 0 })
  unfolding answer_of session_of session_after
  admit_did q z h k c T G =
      did_as (admit_step h)
      (record {
        good = rw (← k, e) (admitted_sound b t w g s);
        session = ap (λ x. open_session x z) (sym k) ∙ ap (open_session a.board) (c ∙ sym (one_fed h));
        few = omega arith;
        answer = refl;
      })

pub promise_refused : (b : Board) (r : Promised) → r ≡ promised b → (r.refusal ≡ 0 → ⊥) → step_promise b ≡ step_refused (some b) r.refusal
unfolding step_promise
promise_refused b r e h = rw (← e) (cond_false _ _ _ (ne_eqb r.refusal 0 h))

module _ (p : Packed) (y : Tally) (s : sound (board_of p) ≡ true) (r : Promised) (e : r ≡ promised (board_of p)) where
  abbrev pb : Board
  pb = board_of p

  promise_step : r.refusal ≡ 0 → step_promise pb ≡ record { answer = a_promise r.laxity.0; board = some pb; events = [] }
  unfolding step_promise
  promise_step h = rw (← e) (cond_true _ _ _ (eq-eqb r.refusal 0 h))

  pub promise_did : r.refusal ≡ 0
      → DidAlone (open_day p y) (step_promise pb) (record { day = open_day p y; answer = WaitPromised r.laxity; listed = 0 })
  unfolding answer_of session_of session_after fed
  promise_did h T G = did_as (promise_step h) (record { good = s; session = refl; few = omega arith; answer = refl })

pub withdraw_refused : (b : Board) (t : ℕ) (w : Withdrawn) → w ≡ withdrawn b t → (w.refusal ≡ 0 → ⊥) → step_withdraw b t ≡ step_refused (some b) w.refusal
unfolding step_withdraw
withdraw_refused b t w e h = rw (← e) (cond_false _ _ _ (ne_eqb w.refusal 0 h))

module _ (p : Packed) (y : Tally) (s : sound (board_of p) ≡ true) (t : ℕ) (w : Withdrawn) (e : w ≡ withdrawn (board_of p) t) where
  abbrev wb : Board
  wb = board_of p

  withdraw_step : w.refusal ≡ 0
      → step_withdraw wb t ≡ record { answer = a_withdrawal t; board = some w.board; events = withdraw_events wb t }
  unfolding step_withdraw
  withdraw_step h = rw (← e) (cond_true _ _ _ (eq-eqb w.refusal 0 h))

  withdrawn_fed : w.refusal ≡ 0 → fed y (withdraw_events wb t) ≡ fed y (event withdrawn_kind w.grade ∷ [])
  unfolding withdraw_events
  withdrawn_fed h = rw (← e) (ap (fed y) (let_through w.refusal _ h))

  pub withdrawn_is_sound : sound w.board ≡ true
  withdrawn_is_sound = rw e (withdrawn_sound wb t s)

  pub withdraw_did : (q : Packed) (z : Tally) → w.refusal ≡ 0 → board_of q ≡ w.board → z ≡ fed y (event withdrawn_kind w.grade ∷ [])
      → DidAlone (open_day p y) (step_withdraw wb t) (record { day = open_day q z; answer = JobWithdrawn t; listed = 0 })
  unfolding answer_of session_of session_after
  withdraw_did q z h k c T G =
      did_as (withdraw_step h)
      (record {
        good = rw k withdrawn_is_sound;
        session = ap (λ x. open_session x z) k ∙ ap (open_session w.board) (c ∙ sym (withdrawn_fed h));
        few = omega arith;
        answer = refl;
      })

-- A day: what each line does. The answer that it gets stands apart from how the answer is printed (Output).
use Rattle.std.specs.Prelude.{Bool, true, false, cond, List, [], ◌∷◌, map, ℕ, zero, suc, eqb}
use Rattle.std.proofs.Math.Option.{Option, none, some}
use Rattle.rule.specs.Job.{Job}
use Rattle.board.specs.declared.Board.{Board}
use Rattle.board.specs.declared.Tally.{Tally}
use Rattle.board.specs.Limits.{places_held}
use Rattle.board.specs.Open.{opened}
use Rattle.board.specs.Admit.{admitted}
use Rattle.board.specs.Close.{closed, given_up}
use Rattle.board.specs.Promise.{promised}
use Rattle.board.specs.Withdraw.{withdrawn}
use Rattle.board.specs.Tally.{zero_tally}
use Rattle.board.specs.Events.{Event, admit_events, close_events, withdraw_events, fed}
use Rattle.board.specs.Held.{slot_of}
use Rattle.lines.specs.Bytes.{Bytes, lines}
use Rattle.lines.specs.Fields.{grade_meant}
use Rattle.lines.specs.Reading.{line_number, Request, open_board, admit_job, close_slot, ask_promise, withdraw_job, request}

-- the board, if one is open, and the tally
pub record Session : Type 0 where
  pub board : Option Board
  pub tally : Tally

unfoldable pub new_session : Session
new_session = record { board = none; tally = zero_tally }

unfoldable pub is_open : Option Board → Bool
is_open none = false
is_open (some b) = true

-- a job as an answer names it
pub record Named : Type 0 where
  pub ticket : ℕ
  pub grade : ℕ

unfoldable pub named : Job → Named
named r = record { ticket = r.ticket; grade = r.grade }

-- a slot closed: the job baked, or 0 and 0 where the slot stays empty, the jobs given up, and the shortfall
pub record Closing : Type 0 where
  pub slot : ℕ
  pub baked : Named
  pub given_up : List Named
  pub shortfall : ℕ

-- what a line is answered
pub data Answer : Type 0 where
  a_refusal : (number : ℕ) → Answer
  an_opening : (depth : ℕ) → Answer
  an_admitting : (ticket last : ℕ) → Answer
  a_closing : Closing → Answer
  a_promise : (laxity : ℕ) → Answer
  a_withdrawal : (ticket : ℕ) → Answer

-- what a line does: its answer, the board after it, and the tally's events
pub record Step : Type 0 where
  pub answer : Answer
  pub board : Option Board
  pub events : List Event

-- a line that is refused leaves the board as it was, and has no event
unfoldable pub step_refused : Option Board → (number : ℕ) → Step
step_refused o n = record { answer = a_refusal n; board = o; events = [] }

-- '`D,depth` opens'
unfoldable pub step_open : Option Board → (depth : ℕ) → Step
step_open o d =
    let r = opened d in
    cond (eqb r.refusal 0) (record { answer = an_opening d; board = some r.board; events = [] }) (step_refused o r.refusal)

-- '`A,ticket,wait,grade` admits'
unfoldable pub step_admit : Board → (ticket laxity grade : ℕ) → Step
step_admit b t w g =
    let r = admitted b t w g in
    cond (eqb r.refusal 0)
    (record { answer = an_admitting t r.last.0; board = some r.board; events = admit_events b t w g })
    (step_refused (some b) r.refusal)

-- '`B` closes the slot'
unfoldable pub step_close : Board → Step
step_close b =
    let r = closed b places_held in
    cond (eqb r.refusal 0)
    (record {
      answer =
          a_closing
          (record { slot = slot_of b; baked = record { ticket = r.ticket; grade = r.grade }; given_up = map named (given_up b); shortfall = r.shortfall });
      board = some r.board;
      events = close_events b places_held;
    })
    (step_refused (some b) r.refusal)

-- 02, Six: 'The line `Q` gives `Q,w`'. 'The board doesn't change.'
unfoldable pub step_promise : Board → Step
step_promise b =
    let r = promised b in
    cond (eqb r.refusal 0) (record { answer = a_promise r.laxity.0; board = some b; events = [] }) (step_refused (some b) r.refusal)

-- 02, Seven: '`W,ticket` takes it off'
unfoldable pub step_withdraw : Board → (ticket : ℕ) → Step
step_withdraw b t =
    let r = withdrawn b t in
    cond (eqb r.refusal 0)
    (record { answer = a_withdrawal t; board = some r.board; events = withdraw_events b t })
    (step_refused (some b) r.refusal)

-- A step on the board that is open. While none is, row 15 refuses every line that is for an open one (proofs/InTurn): the first case is never used.
unfoldable pub when_open : Option Board → (Board → Step) → Step
when_open none f = step_refused none 0
when_open (some b) f = f b

-- a request that rows 11 to 15 let through; a job is admitted with the grade that is meant on the open board
unfoldable pub step_request : Option Board → Request → Step
step_request o (open_board d) = step_open o d
step_request o (admit_job t w g) = when_open o (λ b. step_admit b t w (grade_meant b.depth g))
step_request o close_slot = when_open o step_close
step_request o ask_promise = when_open o step_promise
step_request o (withdraw_job t) = when_open o (λ b. step_withdraw b t)

-- 'the line rows, 11 to 15, come before those of the call that the line makes'
unfoldable pub step_if : ℕ → Option Board → Bytes → Step
step_if zero o l = step_request o (request l)
step_if (suc n) o l = step_refused o (suc n)

unfoldable pub step : Option Board → Bytes → Step
step o l = step_if (line_number (is_open o) l) o l

-- the session after a step: the tally is fed its events
unfoldable pub session_after : Session → Step → Session
session_after s a = record { board = a.board; tally = fed s.tally a.events }

-- a run: the answers to all lines, and the session after the last
pub record Run : Type 0 where
  pub answers : List Answer
  pub session : Session

-- the lines one after the other
unfoldable pub run_from : Session → List Bytes → Run
run_from s [] = record { answers = []; session = s }
run_from s (l ∷ ls) =
    let a = step s.board l in
    let r = run_from (session_after s a) ls in
    record { answers = a.answer ∷ r.answers; session = r.session }

-- the run of an input
unfoldable pub run : Bytes → Run
run input = run_from new_session (lines input)

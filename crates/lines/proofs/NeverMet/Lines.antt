-- What a line gives and leaves: D opens a board only while none is open.
use mathlib.Core.Path.{◌≡◌, refl, subst}
use mathlib.Core.Bool.{true}
use mathlib.Core.Option.{Option, none, some}
use Prim.Native.Nat.{ℕ, zero, suc}
use Rattle.lists.proofs.Tests.{never}
use Rattle.board.specs.declared.Board.{Board}
use Rattle.board.specs.declared.Tally.{Tally}
use Rattle.lines.specs.Bytes.{Bytes}
use Rattle.lines.specs.Reading.{line_number, Request, open_board, admit_job, close_slot, ask_promise, withdraw_job, request}
use Rattle.lines.specs.Session.{is_open, when_open, step_request, step_if, step}
use Rattle.lines.proofs.InTurn.{needs_open, in_turn}
use Rattle.lines.proofs.NeverMet.Between.{InRun}
use Rattle.lines.proofs.NeverMet.MayMeet.{may_meet, may_line}
use Rattle.lines.proofs.NeverMet.Calls.{Goes, goes_refused, goes_open, goes_admit, goes_close, goes_promise, goes_withdraw}

-- a request while no board is open, and for a board that is
requested : (o : Option Board) (y : Tally) → InRun o y → (q : Request) → needs_open q ≡ is_open o → Goes y (step_request o q)
unfolding step_request when_open InRun needs_open is_open
requested none y h (open_board d) e = goes_open none y h h d
requested none y h (admit_job t w g) e = never refl e
requested none y h close_slot e = never refl e
requested none y h ask_promise e = never refl e
requested none y h (withdraw_job t) e = never refl e
requested (some b) y h (open_board d) e = never e refl
requested (some b) y h (admit_job t w g) e = goes_admit b y h t w _
requested (some b) y h close_slot e = goes_close b y h
requested (some b) y h ask_promise e = goes_promise b y h
requested (some b) y h (withdraw_job t) e = goes_withdraw b y h t

pub goes_line : (o : Option Board) (y : Tally) → InRun o y → (l : Bytes) → Goes y (step o l)
unfolding step step_if
goes_line o y h l = go (line_number (is_open o) l) refl
  where
    go : (n : ℕ) → line_number (is_open o) l ≡ n → Goes y (step_if n o l)
    go zero e = requested o y h (request l) (in_turn (is_open o) l e)
    go (suc n) e = goes_refused o y (suc n) h (subst (λ k. may_meet k ≡ true) e (may_line (is_open o) l))

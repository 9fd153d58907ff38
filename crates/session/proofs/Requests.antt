-- What a line asks for is done as the definition of a session says.
use mathlib.Core.Path.{◌≡◌, refl, sym, ap, subst, ◌∙◌}
use mathlib.Core.Bool.{Bool, true}
use mathlib.Core.List.{List}
use mathlib.Core.Option.{Option, none, some}
use Prim.Native.Nat.{ℕ, zero, suc, ◌<◌}
use native.Mathlib.Omega.{arith}
use Rattle.board.specs.declared.Board.{Board}
use Rattle.lines.specs.Bytes.{Bytes}
use Rattle.lines.specs.Reading.{line_number}
use Rattle.lines.specs.Session.{Step, is_open, step_refused, step_request, step_if, step}
use Rattle.lists.proofs.Tests.{never}
use Rattle.lines.proofs.InTurn.{needs_open, in_turn}
use Rattle.requests.specs.declared.Asked.{Asked}
use Rattle.requests.specs.Answers.{request_of}
use Rattle.reading.specs.Answers.{line_result}
use Rattle.reading.proofs.Says.{refused_says, asked_says}
use Rattle.std.specs.Prelude.{Option as OptionHeld, Some, None, is_some}
use Rattle.board.specs.Sound.{sound}
use Rattle.packing.specs.declared.Packed.{Packed}
use Rattle.packing.specs.Inner.Packed.{board_of}
use Rattle.session.specs.declared.Day.{Day}
use Rattle.session.specs.Inner.Days.{board_held, sound_held, session_of, GoodDay, open_day, SteppedDay, Did}
use Rattle.session.proofs.Steps.{did_as}

refused_if : (n : ℕ) (o : Option Board) (l : Bytes) → 0 < n → step_if n o l ≡ step_refused o n
unfolding step_if
refused_if zero o l h = absurd (omega arith)
refused_if (suc n) o l h = refl

is_some_held : (h : OptionHeld Packed) → is_open (board_held h) ≡ is_some h
unfolding is_open
is_some_held None = refl
is_some_held (Some p) = refl

-- a line read on a day: `o` says whether a board is open
module _ (day : Day) (l : Bytes) (o : Bool) (h : o ≡ is_some day.board) where
  by_number : (n : ℕ) → line_number o l ≡ n → step (session_of day).board l ≡ step_if n (session_of day).board l
  unfolding step session_of
  by_number n e = ap (λ k. step_if k (board_held day.board) l) (ap (λ x. line_number x l) (is_some_held day.board ∙ sym h) ∙ e)

  -- reading refuses it
  pub line_refused : (n : ℕ) → (n, none) ≡ line_result o l → step (session_of day).board l ≡ step_refused (session_of day).board n
  line_refused n e =
      let s = refused_says o l n e in
      by_number n s.0 ∙ refused_if n (session_of day).board l s.1

  module _ (a : Asked) (e : (0, some (request_of a)) ≡ line_result o l) where
    -- it asks for something
    pub line_asks : step (session_of day).board l ≡ step_request (session_of day).board (request_of a)
    unfolding step_if
    line_asks =
        let s = asked_says o l (request_of a) e in
        by_number 0 s.0 ∙ ap (step_request (session_of day).board) s.1

    -- a request for a board that is open is let through only while one is
    open_for : needs_open (request_of a) ≡ is_some day.board
    open_for =
        let s = asked_says o l (request_of a) e in
        ap needs_open (sym s.1) ∙ in_turn o l s.0 ∙ h

    pub never_without : (b : Asked) → a ≡ b → needs_open (request_of b) ≡ true → day.board ≡ None → ⊥
    never_without b ab n is = never n (sym (ap (λ q. needs_open (request_of q)) ab) ∙ open_for ∙ ap is_some is)

    -- a step on the open board is the line's
    pub on_open : (p : Packed) → day.board ≡ Some p → (b : Asked) → a ≡ b → (x : Step) → step_request (some (board_of p)) (request_of b) ≡ x
        → {r : SteppedDay} {T G : List ℕ} → Did (open_day p day.tally) x r T G → Did day (step (session_of day).board l) r T G
    unfolding session_of
    on_open p is b ab x bx {r} {T} {G} did =
        let same : open_day p day.tally ≡ day = λ j. record { board = sym is j; tally = day.tally } in
        did_as (line_asks ∙ ap (λ q. step_request (board_held q) (request_of a)) is ∙ ap (λ q. step_request (some (board_of p)) (request_of q)) ab ∙ bx)
        (subst (λ (d : Day). Did d x r T G) same did)

-- an open board of a good day
pub good_open : (day : Day) (p : Packed) → GoodDay day → day.board ≡ Some p → sound (board_of p) ≡ true
good_open day p g is = sym (ap sound_held is) ∙ g

-- The closings of a run fit on the sheet: 16 refuses none of them, and their tickets are numbers of 32 bits.
use mathlib.Core.Path.{◌≡◌, refl, sym, ap, ◌∙◌, subst}
use mathlib.Core.Bool.{Bool, true, false, not, cond, ◌&&◌, ◌||◌}
use mathlib.Core.List.{List, [], ◌∷◌, flat_map, map}
use mathlib.Core.Option.{Option, none, some}
use Prim.Native.Nat.{ℕ, zero, suc, ◌+◌, ◌^◌, ◌≤◌, ◌<◌}
use native.Mathlib.Omega.{arith}
use lib.Dec.{leb, ltb, eqb}
use lib.ListN.{length, take, length-map, length-take}
use borrow.Author.Tests.{leb-true, eqb-true, eq-eqb, lt-ltb, le-ltb, lt-leb, not-false}
use Rattle.lists.specs.Select.{every, one_if}
use Rattle.lists.proofs.Tests.{never, and_left, and_right, and_intro}
use Rattle.lists.proofs.Members.{every_append}
use Rattle.lists.proofs.Counting.{count_length, count_mem, count_split}
use Rattle.rule.specs.Job.{Job}
use Rattle.rule.specs.Bake.{expires, ticket_of, grade_of}
use Rattle.rule.proofs.NoRegret.Within.{baked_none}
use Rattle.board.specs.declared.Board.{Board}
use Rattle.board.specs.declared.Closed.{Closed}
use Rattle.board.specs.Limits.{places_held, last_slot, deepest}
use Rattle.board.specs.Rows.{◌if◌, first_given}
use Rattle.board.specs.Held.{slot_of, job_in, used, held, thinned}
use Rattle.board.specs.Sound.{sound}
use Rattle.board.specs.Open.{empty_board, opened}
use Rattle.board.specs.Admit.{admit_number, with_job, admitted_if, admitted}
use Rattle.board.specs.Promise.{promised}
use Rattle.board.specs.Withdraw.{withdraw_number, without_ticket, withdrawn_if, withdrawn}
use Rattle.board.specs.Close.{close_number, given_up_with, bakes, given_up, moved_on_with, closed_with, closed_if, closed}
use Rattle.board.specs.Tally.{tally_grades}
use Rattle.board.proofs.Soundness.Facts.{SoundFacts}
use Rattle.board.proofs.Soundness.Apart.{facts}
use Rattle.board.proofs.Tallies.CountAt.{grades_counted}
use Rattle.board.proofs.Calls.Rows.{row_passed}
use Rattle.board.proofs.Calls.SoundAfter.{close_going, admitted_sound, closed_sound, withdrawn_sound}
use Rattle.board.proofs.Calls.GivenUp.{given_up_length}
use Rattle.board.proofs.Calls.SoundAfterOpening.{opened_board, opened_sound}
use Rattle.claims.proofs.Tallying.Fates.{baked_held}
use Rattle.lines.specs.Bytes.{Bytes, lines}
use Rattle.lines.specs.Fields.{is_digit, value, is_number, readable_as, value_as}
use Rattle.lines.specs.Reading.{Request, open_board, admit_job, close_slot, ask_promise, withdraw_job, Form, forms, form_in, field, form_of, too_long, readable, form_rows, line_rows, line_number, with_values, request_by, request}
use Rattle.lines.specs.Session.{Session, new_session, is_open, named, Step, step_refused, step_open, step_admit, step_close, step_promise, step_withdraw, when_open, step_request, step_if, step, session_after, run_from, run}
use Rattle.lines.specs.Sheet.{Figures, figures_of, figures_in, closings_in, most_given_up, sheet_number}
use Rattle.lines.proofs.InTurn.{Every, found, needs_open, in_turn}
use Rattle.lines.proofs.NeverMet.MayMeet.{closed_number, opened_shallow}
use Rattle.lines.proofs.Sheets.Fits.{fits}

-- the ticket that a request names, or 0
unfoldable ticket_asked : Request → ℕ
ticket_asked (open_board d) = 0
ticket_asked (admit_job t w g) = t
ticket_asked close_slot = 0
ticket_asked ask_promise = 0
ticket_asked (withdraw_job t) = t

-- a line of this form whose fields can be read names a ticket of 32 bits
Ticketed : Form → Type 0
Ticketed r = (l : Bytes) → readable r.after 1 l ≡ true → ticket_asked (request_by (some r) l) < 4_294_967_296

number_short : (f : Bytes) → is_number f ≡ true → value f < 4_294_967_296
unfolding is_number
number_short f h =
    let digits = leb 1 (length f) && leb (length f) 10 && every is_digit f in
    omega (arith, leb-true (value f) 4_294_967_295 (and_right digits (leb (value f) 4_294_967_295) h))

number_first : (f : Bytes) (others : Bool) → (is_number f && others) ≡ true → value f < 4_294_967_296
number_first f others h = number_short f (and_left (is_number f) others h)

each_ticketed : Every Ticketed forms
unfolding Every forms Ticketed readable readable_as value_as request_by with_values ticket_asked
each_ticketed =
    (λ l h. omega arith, (λ l h. number_first (field 1 l) _ h, (λ l h. omega arith, (λ l h. omega arith, (λ l h. number_first (field 1 l) _ h, record {})))))

ticket_short : (o : Bool) (l : Bytes) → line_number o l ≡ 0 → ticket_asked (request l) < 4_294_967_296
unfolding line_number line_rows form_rows form_of request Ticketed
ticket_short o l h = go (form_in forms (field 0 l)) refl (row_passed 10 (too_long l) _ h).1
  where
    go : (q : Option Form) → form_in forms (field 0 l) ≡ q → first_given (form_rows q o l) ≡ 0 → ticket_asked (request_by q l) < 4_294_967_296
    go none e k = never refl (row_passed 11 true [] k).0
    go (some r) e k =
        let thirteen = row_passed 12 _ _ k in
        let fourteen = row_passed 13 _ _ thirteen.1 in
        (found Ticketed forms each_ticketed (field 0 l) r e).1 l (not-false _ fourteen.0)

-- what holds of a board between two lines
pub record Short (b : Board) : Type 0 where
  pub is_sound : sound b ≡ true
  pub highest : b.highest < 4_294_967_296

module _ (b : Board) (h : Short b) where
  known : SoundFacts b
  known = facts b h.is_sound

  -- a job that is baked is not given up
  apart : (now t : ℕ) (r : Job) → one_if (expires now t r || eqb r.ticket t) ≡ one_if (expires now t r) + one_if (eqb r.ticket t)
  unfolding expires one_if
  apart now t r = go (eqb r.last now) (eqb r.ticket t)
    where
      go : (a c : Bool) → one_if ((a && not c) || c) ≡ one_if (a && not c) + one_if c
      go true true = refl
      go true false = refl
      go false true = refl
      go false false = refl

  few_held : length (held b) ≤ places_held
  unfolding held used
  few_held = omega (arith, length-map (take b.count b.places) job_in, length-take b.count b.places, known.counted)

  -- so no more are given up than a board holds beside it
  few_given_up : length (given_up b) ≤ most_given_up
  unfolding given_up bakes ticket_of most_given_up places_held
  few_given_up = go (bakes b) refl
    where
      go : (o : Option Job) → bakes b ≡ o → length (given_up_with b (ticket_of (bakes b))) ≤ most_given_up
      go none e =
          let empty : held b ≡ [] = baked_none (slot_of b) b.depth (held b) e in
          omega (arith, given_up_length b (ticket_of (bakes b)), count_length (expires (slot_of b) (ticket_of (bakes b))) (held b), ap length empty)
      go (some q) e =
          let t = ticket_of (bakes b) in
          let own : eqb q.ticket t ≡ true = eq-eqb q.ticket t (sym (ap ticket_of e)) in
          omega (
            arith,
            given_up_length b t,
            count_split (expires (slot_of b) t) (λ (r : Job). eqb r.ticket t) (λ (r : Job). expires (slot_of b) t r || eqb r.ticket t) (held b) (λ r m. apart (slot_of b) t r),
            count_length (λ (r : Job). expires (slot_of b) t r || eqb r.ticket t) (held b),
            count_mem (λ (r : Job). eqb r.ticket t) (baked_held b known q e) own,
            few_held,
          )

  graded : grade_of (bakes b) < 2 ^ deepest
  unfolding grade_of deepest tally_grades
  graded = go (bakes b) refl
    where
      go : (o : Option Job) → bakes b ≡ o → grade_of o < 2 ^ deepest
      go none e = omega arith
      go (some q) e = omega (arith, (known.each q (baked_held b known q e)).graded, grades_counted known.shallow)

  ticketed : ticket_of (bakes b) < 4_294_967_296
  unfolding ticket_of
  ticketed = go (bakes b) refl
    where
      go : (o : Option Job) → bakes b ≡ o → ticket_of o < 4_294_967_296
      go none e = omega arith
      go (some q) e = omega (arith, (known.each q (baked_held b known q e)).known, h.highest)

  -- the figures of its closing
  abbrev figures : Figures
  figures = record { slot = slot_of b; ticket = ticket_of (bakes b); grade = grade_of (bakes b); given_up = length (map named (given_up b)) }

  not_refused : close_number b places_held ≡ 0 → sheet_number figures ≡ 0
  unfolding sheet_number first_given ◌if◌ last_slot
  not_refused e =
      let going = close_going b places_held h.is_sound e in
      let slot : ltb last_slot figures.slot ≡ false = le-ltb last_slot figures.slot (omega (arith, known.to_last, going)) in
      let grade : leb (2 ^ deepest) figures.grade ≡ false = lt-leb (2 ^ deepest) figures.grade graded in
      let few : ltb most_given_up figures.given_up ≡ false = le-ltb most_given_up figures.given_up (omega (arith, length-map (given_up b) named, few_given_up)) in
      ap (λ (c : Bool). cond c 16 0) (ap (λ (x : Bool). x || leb (2 ^ deepest) figures.grade || ltb most_given_up figures.given_up) slot ∙ ap (λ (x : Bool). x || ltb most_given_up figures.given_up) grade ∙ few)

  closing_fits : close_number b places_held ≡ 0 → fits figures ≡ true
  closing_fits e = and_intro (eqb (sheet_number figures) 0) _ (eq-eqb (sheet_number figures) 0 (not_refused e)) (lt-ltb figures.ticket 4_294_967_296 ticketed)

-- what holds between two lines
unfoldable InBounds : Option Board → Type 0
InBounds none = record {}
InBounds (some b) = Short b

-- the closing of a step fits, if it is one, and what holds between two lines holds after it
record Fit (a : Step) : Type 0 where
  pub closing : every fits (figures_in a.answer) ≡ true
  pub after : InBounds a.board

fit_refused : (o : Option Board) (n : ℕ) → InBounds o → Fit (step_refused o n)
unfolding step_refused figures_in every
fit_refused o n h = record { closing = refl; after = h }

-- a call that is let through, or a refusal
either : (n : ℕ) (a r : Step) → (n ≡ 0 → Fit a) → Fit r → Fit (cond (eqb n 0) a r)
either n a r let_through refused = go (eqb n 0) (eqb-true n 0)
  where
    go : (c : Bool) → (c ≡ true → n ≡ 0) → Fit (cond c a r)
    go true f = let_through (f refl)
    go false f = refused

fit_open : (o : Option Board) (d : ℕ) → InBounds o → Fit (step_open o d)
unfolding step_open figures_in every InBounds empty_board
fit_open o d h =
    either (opened d).refusal _ _
    (λ e.
    let shallow = opened_shallow d e in
    record {
      closing = refl;
      after = record { is_sound = opened_sound d shallow; highest = omega (arith, ap (λ (b : Board). b.highest) (opened_board d shallow)) };
    })
    (fit_refused o (opened d).refusal h)

module _ (b : Board) (h : Short b) where
  after_admit : (t w g : ℕ) → t < 4_294_967_296 → Short (admitted b t w g).board
  unfolding admitted admitted_if with_job
  after_admit t w g short = record { is_sound = admitted_sound b t w g h.is_sound; highest = go (admit_number b t w g) }
    where
      go : (n : ℕ) → (admitted_if n b t w g).board.highest < 4_294_967_296
      go zero = short
      go (suc n) = h.highest

  fit_admit : (t w g : ℕ) → t < 4_294_967_296 → Fit (step_admit b t w g)
  unfolding step_admit figures_in every InBounds
  fit_admit t w g short =
      either (admitted b t w g).refusal _ _ (λ e. record { closing = refl; after = after_admit t w g short })
      (fit_refused (some b) (admitted b t w g).refusal h)

  after_close : Short (closed b places_held).board
  unfolding closed closed_if closed_with moved_on_with thinned
  after_close = record { is_sound = closed_sound b places_held h.is_sound; highest = go (close_number b places_held) }
    where
      go : (n : ℕ) → (closed_if n b).board.highest < 4_294_967_296
      go zero = h.highest
      go (suc n) = h.highest

  fit_close : Fit (step_close b)
  unfolding step_close figures_in figures_of every InBounds closed closed_if closed_with
  fit_close =
      either (closed b places_held).refusal _ _
      (λ e.
      let zero_number = sym (closed_number b places_held) ∙ e in
      record {
        closing = subst
            (λ (r : Closed). (fits (record { slot = slot_of b; ticket = r.ticket; grade = r.grade; given_up = length (map named (given_up b)) }) && true) ≡ true)
            (sym (ap (λ n. closed_if n b) zero_number))
            (and_intro _ true (closing_fits b h zero_number) refl);
        after = after_close;
      })
      (fit_refused (some b) (closed b places_held).refusal h)

  fit_promise : Fit (step_promise b)
  unfolding step_promise figures_in every InBounds
  fit_promise = either (promised b).refusal _ _ (λ e. record { closing = refl; after = h }) (fit_refused (some b) (promised b).refusal h)

  after_withdraw : (t : ℕ) → Short (withdrawn b t).board
  unfolding withdrawn withdrawn_if without_ticket thinned
  after_withdraw t = record { is_sound = withdrawn_sound b t h.is_sound; highest = go (withdraw_number b t) }
    where
      go : (n : ℕ) → (withdrawn_if n b t).board.highest < 4_294_967_296
      go zero = h.highest
      go (suc n) = h.highest

  fit_withdraw : (t : ℕ) → Fit (step_withdraw b t)
  unfolding step_withdraw figures_in every InBounds
  fit_withdraw t =
      either (withdrawn b t).refusal _ _ (λ e. record { closing = refl; after = after_withdraw t }) (fit_refused (some b) (withdrawn b t).refusal h)

-- a request in its turn, and a line
requested : (o : Option Board) → InBounds o → (q : Request) → needs_open q ≡ is_open o → ticket_asked q < 4_294_967_296 → Fit (step_request o q)
unfolding step_request when_open InBounds needs_open is_open ticket_asked
requested none h (open_board d) e k = fit_open none d h
requested none h (admit_job t w g) e k = never refl e
requested none h close_slot e k = never refl e
requested none h ask_promise e k = never refl e
requested none h (withdraw_job t) e k = never refl e
requested (some b) h (open_board d) e k = never e refl
requested (some b) h (admit_job t w g) e k = fit_admit b h t w _ k
requested (some b) h close_slot e k = fit_close b h
requested (some b) h ask_promise e k = fit_promise b h
requested (some b) h (withdraw_job t) e k = fit_withdraw b h t

fit_line : (o : Option Board) → InBounds o → (l : Bytes) → Fit (step o l)
unfolding step step_if
fit_line o h l = go (line_number (is_open o) l) refl
  where
    go : (n : ℕ) → line_number (is_open o) l ≡ n → Fit (step_if n o l)
    go zero e = requested o h (request l) (in_turn (is_open o) l e) (ticket_short (is_open o) l e)
    go (suc n) e = fit_refused o (suc n) h

along : (s : Session) (ls : List Bytes) → InBounds s.board → every fits (closings_in (run_from s ls).answers) ≡ true
unfolding run_from closings_in flat_map every session_after
along s [] h = refl
along s (l ∷ ls) h =
    let a = step s.board l in
    let line = fit_line s.board h l in
    every_append fits (figures_in a.answer) (closings_in (run_from (session_after s a) ls).answers) line.closing (along (session_after s a) ls line.after)

pub closings_fit : (input : Bytes) → every fits (closings_in (run input).answers) ≡ true
unfolding run new_session InBounds
closings_fit input = along new_session (lines input) (record {})

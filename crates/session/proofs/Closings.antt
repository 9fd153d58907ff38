-- A slot closed: the day after it, and the answer.
use mathlib.Core.Path.{◌≡◌, sym, ap, ◌∙◌}
use mathlib.Core.Bool.{true}
use mathlib.Core.List.{List, map, map-map}
use mathlib.Core.Option.{some}
use Prim.Native.Nat.{ℕ}
use borrow.Author.Tests.{eq-eqb, ne_eqb}
use lib.ListN.{take}
use Rattle.lists.proofs.Tests.{cond_true, cond_false}
use Rattle.rule.specs.Job.{Job}
use Rattle.board.specs.declared.Board.{Board}
use Rattle.board.specs.declared.Tally.{Tally}
use Rattle.board.specs.declared.Closed.{Closed}
use Rattle.board.specs.Limits.{places_held}
use Rattle.board.specs.Sound.{sound}
use Rattle.board.specs.Close.{closed, given_up}
use Rattle.board.specs.Events.{given_up_kind, event, baked_events, given_up_events, close_events, fed}
use Rattle.board.specs.Held.{slot_of}
use Rattle.board.proofs.Calls.SoundAfter.{closed_sound}
use Rattle.board.proofs.Tallies.Fed.{let_through, fed_append}
use Rattle.lines.specs.Session.{Named, named, a_closing, step_refused, step_close, session_after}
use Rattle.answers.specs.declared.Answer.TheVariants.{Closed as SlotClosed}
use Rattle.answers.specs.Printed.{answer_of}
use Rattle.packing.specs.declared.Packed.{Packed}
use Rattle.packing.specs.Inner.Packed.{board_of}
use Rattle.session.specs.Inner.Days.{session_of, open_day, Did}
use Rattle.session.proofs.Steps.{open_session, did_as}
use Rattle.session.proofs.Entries.{Entered, jobs_named}

module _ (p : Packed) (y : Tally) (c : Closed) (e : c ≡ closed (board_of p) places_held) where
  abbrev b : Board
  b = board_of p

  pub close_refused : (c.refusal ≡ 0 → ⊥) → step_close b ≡ step_refused (some b) c.refusal
  unfolding step_close
  close_refused h = rw (← e) (cond_false _ _ _ (ne_eqb c.refusal 0 h))

  close_step : c.refusal ≡ 0
      → step_close b
      ≡ record {
        answer = a_closing (record {
          slot = slot_of b;
          baked = record { ticket = c.ticket; grade = c.grade };
          given_up = map named (given_up b);
          shortfall = c.shortfall;
        });
        board = some c.board;
        events = close_events b places_held;
      }
  unfolding step_close
  close_step h = rw (← e) (cond_true _ _ _ (eq-eqb c.refusal 0 h))

  all_fed : c.refusal ≡ 0 → (G : List ℕ) → G ≡ map (λ (r : Job). r.grade) (given_up b)
      → fed (fed y (baked_events c.ticket c.grade)) (map (event given_up_kind) G) ≡ fed y (close_events b places_held)
  unfolding close_events given_up_events
  all_fed h G q =
      let first = baked_events c.ticket c.grade in
      rw q
      (ap (fed (fed y first)) (map-map (event given_up_kind) (λ (r : Job). r.grade) (given_up b))
      ∙ sym (fed_append y first (given_up_events (given_up b)))
      ∙ sym (rw (← e) (ap (fed y) (let_through c.refusal _ h))))

  pub close_did : (T G : List ℕ) (q : Packed) (z : Tally) → sound b ≡ true → c.refusal ≡ 0 → (n : Entered b c.listed T G) → c.board ≡ board_of q
      → z ≡ fed (fed y (baked_events c.ticket c.grade)) (map (event given_up_kind) (take c.listed G))
      → Did (open_day p y) (step_close b)
      (record { day = open_day q z; answer = SlotClosed (record { slot = b.slot; ticket = c.ticket; grade = c.grade; shortfall = c.shortfall }); listed = c.listed }) T G
  unfolding session_of session_after answer_of
  close_did T G q z s h n k x =
      did_as (close_step h)
      (record {
        good = rw (← k, e) (closed_sound b places_held s);
        session = ap (λ a. open_session a z) (sym k) ∙ ap (open_session c.board) (x ∙ all_fed h (take c.listed G) n.grades);
        few = n.few;
        answer = ap (λ (A : List Named). a_closing (record { slot = slot_of b; baked = record { ticket = c.ticket; grade = c.grade }; given_up = A; shortfall = c.shortfall }))
            (jobs_named (given_up b) n.tickets n.grades);
      })

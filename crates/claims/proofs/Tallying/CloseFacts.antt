-- The events of a closing.
use mathlib.Core.Path.{◌≡◌, refl, sym, ◌∙◌, subst}
use mathlib.Core.Bool.{true, false, ◌&&◌}
use mathlib.Core.Logic.{◌⊎◌, inl, inr}
use mathlib.Core.List.Memᴰ
use mathlib.Core.List.{List, [], ◌∷◌, ◌++◌, Memᴰ}
use mathlib.Core.Option.{Option, none, some}
use Prim.Native.Nat.{ℕ, zero, suc, ◌+◌, ◌≤◌, ◌<◌}
use native.Mathlib.Omega.{arith}
use lib.Dec.{eqb}
use borrow.Author.Tests.{ne_eqb}
use Rattle.lists.specs.Select.{one_if, how_many}
use Rattle.lists.proofs.Tests.{cond_false}
use Rattle.lists.proofs.Counting.{count_append, count_map, count_none}
use Rattle.rule.specs.Job.{Job}
use Rattle.rule.specs.Bake.{ticket_of, grade_of}
use Rattle.board.specs.declared.Board.{Board}
use Rattle.board.specs.Limits.{most_in_slot, last_slot}
use Rattle.board.specs.Held.{slot_of, held, in_slot, thinned}
use Rattle.board.specs.Sound.{sound}
use Rattle.board.specs.Close.{close_number, bakes, given_up, moved_on_with, closed_with, closed_if, closed}
use Rattle.board.specs.Tally.{tally_grades}
use Rattle.board.specs.Rows.{unless_refused}
use Rattle.board.specs.Events.{admitted_kind, baked_kind, given_up_kind, withdrawn_kind, Event, event, baked_events, given_up_events, close_events}
use Rattle.lists.proofs.Spread.{sharing}
use Rattle.board.proofs.Soundness.Facts.{SoundFacts}
use Rattle.board.proofs.Soundness.Apart.{facts}
use Rattle.board.proofs.Calls.SoundAfter.{moved_on_sound, close_going}
use Rattle.board.proofs.Calls.GivenUp.{given_up_mem}
use Rattle.board.proofs.Tallies.CountAt.{Cell, grades_counted}
use Rattle.board.proofs.Tallies.Kinds.{same_cell, baked_cell, given_up_cell}
use Rattle.board.proofs.Tallies.FedCounts.{times}
use Rattle.claims.specs.Balance.{on_board}
use Rattle.claims.proofs.Tallying.RunFacts.{still, Leads, leads_nowhere}
use Rattle.claims.proofs.Tallying.Fates.{baked_held, ticket_above, none_baked, one_baked, fates}

-- the events of the job that is baked
job_events : Option Job → List Event
job_events none = []
job_events (some q) = event baked_kind q.grade ∷ []

module _ (b : Board) (s : sound b ≡ true) where
  known : SoundFacts b
  known = facts b s

  fits : (q : Job) → Memᴰ q (held b) → q.grade < tally_grades
  fits q m = omega (arith, (known.each q m).graded, grades_counted known.shallow)

  -- a job that is baked has a ticket
  named : (o : Option Job) → bakes b ≡ o → baked_events (ticket_of o) (grade_of o) ≡ job_events o
  unfolding ticket_of grade_of baked_events job_events
  named none e = refl
  named (some q) e = cond_false _ _ _ (ne_eqb q.ticket 0 (omega (arith, ticket_above b known q (baked_held b known q e))))

  abbrev gone : List Event
  gone = given_up_events (given_up b)

  abbrev events : List Event
  events = job_events (bakes b) ++ gone

  baked_times : (g : ℕ) (o : Option Job) → bakes b ≡ o
      → (times admitted_kind g (job_events o) ≡ 0)
      × (times baked_kind g (job_events o) ≡ how_many (λ (r : Job). eqb r.ticket (ticket_of (bakes b)) && eqb r.grade g) (held b))
      × (times given_up_kind g (job_events o) ≡ 0)
      × (times withdrawn_kind g (job_events o) ≡ 0)
  unfolding job_events how_many one_if admitted_kind baked_kind given_up_kind withdrawn_kind
  baked_times g none e = (refl, sym (none_baked b known g e), refl, refl)
  baked_times g (some q) e = (omega arith, omega (arith, one_baked b known g q e), omega arith, omega arith)

  gone_times : (g : ℕ)
      → (times admitted_kind g gone ≡ 0)
      × (times baked_kind g gone ≡ 0)
      × (times given_up_kind g gone ≡ how_many (λ (r : Job). eqb r.grade g) (given_up b))
      × (times withdrawn_kind g gone ≡ 0)
  unfolding given_up_events admitted_kind baked_kind given_up_kind withdrawn_kind
  gone_times g = (counted_as admitted_kind ∙ none, counted_as baked_kind ∙ none, counted_as given_up_kind, counted_as withdrawn_kind ∙ none)
    where
      counted_as : (k : ℕ) → times k g (given_up_events (given_up b)) ≡ how_many (λ (r : Job). eqb given_up_kind k && eqb r.grade g) (given_up b)
      counted_as k = count_map _ (λ (e : Event). eqb e.kind k && eqb e.grade g) (given_up b)

      none : how_many (λ (r : Job). false) (given_up b) ≡ 0
      none = count_none (λ (r : Job). false) (given_up b) (λ r m. refl)

  both : (k g : ℕ) → times k g events ≡ times k g (job_events (bakes b)) + times k g gone
  both k g = count_append (λ (e : Event). eqb e.kind k && eqb e.grade g) (job_events (bakes b)) gone

  in_balance : (g : ℕ)
      → times admitted_kind g events + on_board g b
      ≡ times baked_kind g events + times given_up_kind g events + times withdrawn_kind g events + on_board g (moved_on_with b (ticket_of (bakes b)))
  in_balance g =
      let t = baked_times g (bakes b) refl in
      let u = gone_times g in
      omega (
        arith,
        both admitted_kind g,
        both baked_kind g,
        both given_up_kind g,
        both withdrawn_kind g,
        t.0,
        t.1,
        t.2,
        t.3,
        u.0,
        u.1,
        u.2,
        u.3,
        fates b known g,
      )

  none_admitted : (g : ℕ) → times admitted_kind g events ≡ 0
  none_admitted g = omega (arith, both admitted_kind g, (baked_times g (bakes b) refl).0, (gone_times g).0)

  less : (slot_of b ≡ suc last_slot → ⊥) → still (moved_on_with b (ticket_of (bakes b))) ≤ still b
  unfolding still moved_on_with thinned last_slot most_in_slot in_slot
  less going =
      omega (arith, known.to_last, sharing (λ (r : Job). r.admitted) (held b) most_in_slot known.intake (slot_of b))

  cells : (e : Event) → Memᴰ e events → Cell e.kind e.grade
  unfolding job_events given_up_events given_up
  cells e m = go (Memᴰ.append_cases (job_events (bakes b)) m)
    where
      from : (o : Option Job) → bakes b ≡ o → Memᴰ e (job_events o) → Cell e.kind e.grade
      from none q i = absurd (Memᴰ.not-nil i)
      from (some x) q i = same_cell (Memᴰ.eq_of_singleton i) (baked_cell (fits x (baked_held b known x q)))

      go : Memᴰ e (job_events (bakes b)) ⊎ Memᴰ e gone → Cell e.kind e.grade
      go (inl i) = from (bakes b) refl i
      go (inr i) =
          let r = Memᴰ.of_map _ (given_up b) i in
          same_cell (sym r.2) (given_up_cell (fits r.0 (given_up_mem b (ticket_of (bakes b)) r.0 r.1).0))

  taken : (lent : ℕ) → close_number b lent ≡ 0 → Leads b events (moved_on_with b (ticket_of (bakes b)))
  taken lent e =
      record {
        is_sound = moved_on_sound b (ticket_of (bakes b)) s (close_going b lent s e);
        cells = cells;
        balance = in_balance;
        intake = λ g. omega (arith, none_admitted g, less (close_going b lent s e));
      }

pub close_leads : (b : Board) (lent : ℕ) → sound b ≡ true → Leads b (close_events b lent) (closed b lent).board
unfolding close_events unless_refused closed closed_if closed_with
close_leads b lent s = go (close_number b lent) refl
  where
    go : (n : ℕ) → close_number b lent ≡ n → let r = closed_if n b in
        Leads b (unless_refused r.refusal (baked_events r.ticket r.grade ++ given_up_events (given_up b))) r.board
    go zero e = subst (λ es. Leads b (es ++ given_up_events (given_up b)) (moved_on_with b (ticket_of (bakes b)))) (sym (named b s (bakes b) refl)) (taken b s lent e)
    go (suc n) e = leads_nowhere b s

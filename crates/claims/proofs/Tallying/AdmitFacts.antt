-- The events of an admitting.
use mathlib.Core.Path.{◌≡◌, refl, ap}
use mathlib.Core.Bool.{true}
use mathlib.Core.List.Memᴰ
use mathlib.Core.List.{[], ◌∷◌}
use Prim.Native.Nat.{ℕ, zero, suc, ◌+◌, ◌≤◌}
use native.Mathlib.Omega.{arith}
use lib.Dec.{eqb}
use borrow.Author.Tests.{eq-eqb}
use Rattle.lists.specs.Select.{one_if, how_many}
use Rattle.lists.proofs.Counting.{one_if_yes, one_if_most, count_append}
use Rattle.rule.specs.Job.{Job, job}
use Rattle.board.specs.declared.Board.{Board}
use Rattle.board.specs.Limits.{most_in_slot, last_slot}
use Rattle.board.specs.Held.{slot_of, held, in_slot}
use Rattle.board.specs.Sound.{sound}
use Rattle.board.specs.Admit.{admit_number, with_job, admitted_if, admitted}
use Rattle.board.specs.Rows.{unless_refused}
use Rattle.board.specs.Events.{admitted_kind, baked_kind, given_up_kind, withdrawn_kind, event, admit_events}
use Rattle.board.proofs.Soundness.Facts.{SoundFacts, admitted_in}
use Rattle.board.proofs.Soundness.Apart.{facts}
use Rattle.board.proofs.Soundness.Room.{room}
use Rattle.board.proofs.Tallies.CountAt.{grades_counted}
use Rattle.board.proofs.Tallies.Kinds.{same_cell, admitted_cell}
use Rattle.board.proofs.Calls.Rows.{Admits}
use Rattle.board.proofs.Calls.SoundAfter.{with_job_sound}
use Rattle.claims.specs.Balance.{on_board}
use Rattle.claims.proofs.Admitted.{taken_rows, held_taken}
use Rattle.claims.proofs.Tallying.RunFacts.{still, Leads, leads_nowhere}

module _ (b : Board) (t w g : ℕ) (s : sound b ≡ true) (e : admit_number b t w g ≡ 0) where
  rows : Admits (slot_of b) b.highest (in_slot b) b.depth t w g
  rows = taken_rows b t w g s e

  known : SoundFacts b
  known = facts b s

  one_more : (n : ℕ) → on_board n (with_job b t w g) ≡ on_board n b + one_if (eqb g n)
  unfolding on_board how_many job
  one_more n =
      omega (
        arith,
        ap (how_many (λ (r : Job). eqb r.grade n)) (held_taken b t w g s e),
        count_append (λ (r : Job). eqb r.grade n) (held b) (job t (slot_of b) w g ∷ []),
      )

  one_more_now : in_slot (with_job b t w g) ≡ in_slot b + 1
  unfolding in_slot with_job how_many job
  one_more_now =
      omega (
        arith,
        ap (admitted_in (slot_of b)) (held_taken b t w g s e),
        one_if_yes (eqb (slot_of b) (slot_of b)) (eq-eqb (slot_of b) (slot_of b) refl),
        count_append (λ (r : Job). eqb r.admitted (slot_of b)) (held b) (job t (slot_of b) w g ∷ []),
      )

  less : 1 + still (with_job b t w g) ≤ still b
  unfolding still with_job most_in_slot last_slot
  less = omega (arith, one_more_now, rows.room, rows.going, known.to_last)

  taken : Leads b (event admitted_kind g ∷ []) (with_job b t w g)
  unfolding how_many one_if admitted_kind baked_kind given_up_kind withdrawn_kind
  taken =
      record {
        is_sound = with_job_sound b t w g s e;
        cells = λ x m. same_cell (Memᴰ.eq_of_singleton m) (admitted_cell (omega (arith, rows.graded, grades_counted known.shallow)));
        balance = λ n. omega (arith, one_more n);
        intake = λ n. omega (arith, less, one_if_most (eqb g n));
      }

pub admit_leads : (b : Board) (t w g : ℕ) → sound b ≡ true → Leads b (admit_events b t w g) (admitted b t w g).board
unfolding admit_events unless_refused admitted admitted_if
admit_leads b t w g s = go (admit_number b t w g) refl
  where
    go : (n : ℕ) → admit_number b t w g ≡ n
        → Leads b (unless_refused (admitted_if n b t w g).refusal (event admitted_kind g ∷ [])) (admitted_if n b t w g).board
    go zero e = taken b t w g s e
    go (suc n) e = leads_nowhere b s

-- The event of a withdrawal.
use mathlib.Core.Path.{◌≡◌, refl, sym, ap, ◌∙◌, subst}
use mathlib.Core.Bool.{Bool, true, false, not, ◌&&◌}
use mathlib.Core.List.Memᴰ
use mathlib.Core.List.{[], ◌∷◌, Memᴰ}
use Prim.Native.Nat.{ℕ, zero, suc, ◌+◌}
use native.Mathlib.Omega.{arith}
use lib.Dec.{eqb}
use borrow.Author.Tests.{eqb-true, ne_eqb, not-false}
use Rattle.lists.specs.Select.{one_if, how_many}
use Rattle.lists.proofs.Counting.{one_if_no, count_split, count_in_selection}
use Rattle.lists.proofs.Once.{count_once}
use Rattle.lists.proofs.Find.{find_is}
use Rattle.rule.specs.Job.{Job, with_ticket}
use Rattle.rule.specs.Bake.{grade_of}
use Rattle.board.specs.declared.Board.{Board}
use Rattle.board.specs.Rows.{unless_refused}
use Rattle.board.specs.Held.{slot_of, held, in_slot, thinned}
use Rattle.board.specs.Sound.{sound}
use Rattle.board.specs.Withdraw.{withdraw_number, without_ticket, withdrawn_if, withdrawn}
use Rattle.board.specs.Events.{admitted_kind, baked_kind, given_up_kind, withdrawn_kind, event, withdraw_events}
use Rattle.board.proofs.Soundness.Facts.{SoundFacts}
use Rattle.board.proofs.Soundness.Apart.{facts}
use Rattle.board.proofs.Tallies.CountAt.{grades_counted}
use Rattle.board.proofs.Tallies.Kinds.{same_cell, withdrawn_cell}
use Rattle.board.proofs.Calls.Rows.{row_passed, Withdraws, withdraws}
use Rattle.board.proofs.Calls.HeldAfter.{held_without}
use Rattle.board.proofs.Calls.SoundAfter.{withdraw_number_sound, without_ticket_sound}
use Rattle.claims.specs.Balance.{on_board}
use Rattle.claims.proofs.Tallying.RunFacts.{still, Leads, leads_nowhere}

-- of the jobs that pass, the one withdrawn and the others
one_or_others : (c g : Bool) → one_if g ≡ one_if (c && g) + one_if (not c && g)
unfolding one_if
one_or_others true g = omega arith
one_or_others false g = omega arith

module _ (b : Board) (t : ℕ) (s : sound b ≡ true) (e : withdraw_number b t ≡ 0) where
  abbrev has_it : Job → Bool
  has_it r = eqb r.ticket t

  known : SoundFacts b
  known = facts b s

  rows : Withdraws (slot_of b) (held b) t
  rows = withdraws (slot_of b) (held b) t (sym (withdraw_number_sound b t s) ∙ e)

  abbrev q : Job
  q = rows.taken_off

  on : Memᴰ q (held b) × (has_it q ≡ true)
  on = find_is has_it (held b) q (unfold with_ticket in rows.found)

  -- it is one job, and the others stay
  others : (p : Job → Bool) → how_many p (held b) ≡ one_if (p q) + how_many p (held (without_ticket b t))
  others p =
      omega (
        arith,
        count_split (λ (r : Job). has_it r && p r) (λ (r : Job). not (has_it r) && p r) p (held b) (λ r m. one_or_others (has_it r) (p r)),
        ap (λ n. how_many (λ (r : Job). eqb r.ticket n && p r) (held b)) (eqb-true q.ticket t on.1),
        count_once (λ (r : Job). r.ticket) p 0 known.tickets_rise on.0,
        ap (how_many p) (held_without b t),
        count_in_selection p (λ (r : Job). not (has_it r)) (held b),
      )

  -- it was not admitted in this slot, so that row 7 counts what it did
  same_now : in_slot (without_ticket b t) ≡ in_slot b
  unfolding in_slot without_ticket thinned
  same_now =
      omega (
        arith,
        others (λ (r : Job). eqb r.admitted (slot_of b)),
        one_if_no (eqb q.admitted (slot_of b)) (ne_eqb q.admitted (slot_of b) rows.older),
      )

  taken : Leads b (event withdrawn_kind q.grade ∷ []) (without_ticket b t)
  unfolding how_many one_if admitted_kind baked_kind given_up_kind withdrawn_kind
  taken =
      record {
        is_sound = without_ticket_sound b t s;
        cells = λ x m. same_cell (Memᴰ.eq_of_singleton m) (withdrawn_cell (omega (arith, (known.each q on.0).graded, grades_counted known.shallow)));
        balance = λ n. unfold on_board in omega (arith, others (λ (r : Job). eqb r.grade n));
        intake = λ n. unfold still without_ticket thinned in omega (arith, same_now);
      }

pub withdraw_leads : (b : Board) (t : ℕ) → sound b ≡ true → Leads b (withdraw_events b t) (withdrawn b t).board
unfolding withdraw_events unless_refused withdrawn withdrawn_if grade_of
withdraw_leads b t s = go (withdraw_number b t) refl
  where
    go : (n : ℕ) → withdraw_number b t ≡ n → let r = withdrawn_if n b t in Leads b (unless_refused r.refusal (event withdrawn_kind r.grade ∷ [])) r.board
    go zero e = subst (λ o. Leads b (event withdrawn_kind (grade_of o) ∷ []) (without_ticket b t)) (sym (rows b t s e).found) (taken b t s e)
    go (suc n) e = leads_nowhere b s

-- a withdrawal takes no job of the present slot
pub intake_kept : (b : Board) (t : ℕ) → in_slot (withdrawn b t).board ≡ in_slot b
unfolding withdrawn withdrawn_if withdraw_number
intake_kept b t = go (withdraw_number b t) refl
  where
    go : (n : ℕ) → withdraw_number b t ≡ n → in_slot (withdrawn_if n b t).board ≡ in_slot b
    go zero e = same_now b t (not-false (sound b) (row_passed 1 _ _ e).0) e
    go (suc n) e = refl

-- How many jobs a closing lists, whatever board it is: no more than a board has places, and if it is not refused the lists have as many entries.
use mathlib.Core.Path.{◌≡◌, refl, sym, ap, ◌∙◌}
use mathlib.Core.Option.{Option}
use Prim.Native.Nat.{ℕ, zero, suc, ◌≤◌}
use native.Mathlib.Omega.{arith}
use lib.ListN.{length}
use Rattle.rule.specs.Job.{Job}
use Rattle.board.specs.declared.Board.{Board}
use Rattle.board.specs.declared.Closed.{Closed}
use Rattle.board.specs.Limits.{places_held}
use Rattle.board.specs.Close.{closed_with}
use Rattle.board.specs.Lent.{Lent, entry_count}
use Rattle.board.proofs.Calls.Rows.{closes}
use Rattle.limits.specs.Inner.Limits.{◌or_else◌}
use Rattle.closing.specs.Inner.InLimits.{close_number_in_limits, bounds_seen, closed_in_limits, ClosedInLimits}
use Rattle.rooms.proofs.Bounding.{bound_within}

listed_few : (n : ℕ) (b : Board) (o : Option Job) (k s : ℕ) → k ≤ places_held → (closed_with n b o k s).listed ≤ places_held
unfolding closed_with
listed_few zero b o k s h = h
listed_few (suc n) b o k s h = omega arith

not_refused : (n : ℕ) (b : Board) (o : Option Job) (k s : ℕ) → (closed_with n b o k s).refusal ≡ 0 → n ≡ 0
unfolding closed_with
not_refused zero b o k s e = refl
not_refused (suc n) b o k s e = absurd (omega (arith, e))

other : (n m : ℕ) → n or_else m ≡ 0 → m ≡ 0
unfolding ◌or_else◌
other zero m e = e
other (suc n) m e = absurd (omega (arith, e))

module _ (b : Board) (before after : Lent) (c : Closed) (m : ClosedInLimits b before after c) where
  few : c.listed ≤ places_held
  unfolding closed_in_limits bounds_seen
  few = rw m.answer (listed_few _ _ _ _ _ (bound_within _ _))

  room : c.refusal ≡ 0 → places_held ≤ entry_count before
  unfolding closed_in_limits close_number_in_limits
  room h = (closes _ _ (other _ _ (not_refused _ _ _ _ _ (sym (ap (λ (q : Closed). q.refusal) m.answer) ∙ h)))).long

  pub in_grades_lent : c.refusal ≡ 0 → c.listed ≤ length before.grades
  unfolding entry_count
  in_grades_lent h = omega (arith, few, room h)

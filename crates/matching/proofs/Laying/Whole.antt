-- The layout of a set that fits is a plan: it bakes the jobs of the set, and no others.
use mathlib.Core.Path.{◌≡◌, sym, ap, ◌∙◌}
use mathlib.Core.Bool.{Bool, true, false, not}
use mathlib.Core.Logic.{◌⊎◌, inl, inr}
use mathlib.Core.List.{List}
use Prim.Native.Nat.{ℕ, ◌≤◌, ◌<◌}
use native.Mathlib.Omega.{arith}
use lib.Dec.{eqb}
use lib.ListN.{length}
use borrow.Author.Tests.{eq-eqb, ne_eqb}
use Rattle.lists.specs.Select.{every}
use Rattle.lists.proofs.Tests.{test}
use Rattle.matching.specs.declared.Window.{Window}
use Rattle.matching.specs.Windows.{most_jobs, slot_count, first_of, last_of, is_window}
use Rattle.matching.specs.Assignments.{slot_given, IsAssignment}
use Rattle.matching.specs.Choice.{is_in, all_fit}
use Rattle.matching.specs.Layout.{laid_to, layout}
use Rattle.matching.proofs.Windows.{window_at}
use Rattle.matching.proofs.Choice.Assigned.{Assigned}
use Rattle.matching.proofs.Laying.Room.{in_date}
use Rattle.matching.proofs.Laying.Given.{InWindow, LaidWell, laid_well}

module _ (ws : List Window) (few : length ws ≤ most_jobs) (ok : every is_window ws ≡ true) (c : List Bool) (all : length c ≡ most_jobs) (e : all_fit ws c ≡ true) where
  well : LaidWell ws c slot_count (laid_to ws c slot_count)
  well = laid_well ws few ok c all e slot_count

  -- nobody waits in the end
  none_waits : (i : ℕ) → i < length ws → is_in (laid_to ws c slot_count).waiting i ≡ false
  none_waits i h = go (test (is_in (laid_to ws c slot_count).waiting i))
    where
      go : (is_in (laid_to ws c slot_count).waiting i ≡ true) ⊎ (is_in (laid_to ws c slot_count).waiting i ≡ false) → is_in (laid_to ws c slot_count).waiting i ≡ false
      go (inl y) = absurd (omega (arith, in_date ws (laid_to ws c slot_count).waiting slot_count i well.room h y, (window_at ws ok i h).to_end))
      go (inr y) = y

  pub layout_in : (i : ℕ) → i < length ws → is_in c i ≡ true → InWindow ws i (slot_given (layout ws c) i)
  unfolding layout
  layout_in i h y = well.placed i h y (none_waits i h)

  pub layout_out : (i : ℕ) → i < length ws → is_in c i ≡ false → slot_given (layout ws c) i ≡ 0
  unfolding layout
  layout_out i h y = well.left_out i h y

  pub layout_beyond : (i : ℕ) → length ws ≤ i → slot_given (layout ws c) i ≡ 0
  unfolding layout
  layout_beyond i h = well.beyond i h

  pub layout_assigned : Assigned ws c (slot_given (layout ws c))
  unfolding layout
  layout_assigned =
      record {
        from_first = λ i h y. (layout_in i h y).from_first;
        to_last = λ i h y. (layout_in i h y).to_last;
        apart = λ i j h k y z. well.apart i j h k (layout_in i h y).some;
      }

  pub layout_plan : IsAssignment ws (layout ws c)
  unfolding layout
  layout_plan = record { in_window = λ i h y. go i h y (test (is_in c i)); apart = well.apart }
    where
      go : (i : ℕ) → i < length ws → 1 ≤ slot_given (layout ws c) i → (is_in c i ≡ true) ⊎ (is_in c i ≡ false)
          → (first_of ws i ≤ slot_given (layout ws c) i) × (slot_given (layout ws c) i ≤ last_of ws i)
      go i h y (inl z) = let w = layout_in i h z in (w.from_first, w.to_last)
      go i h y (inr z) = absurd (omega (arith, layout_out i h z))

  pub layout_bakes : (i : ℕ) → i < length ws → not (eqb (slot_given (layout ws c) i) 0) ≡ is_in c i
  layout_bakes i h = go (test (is_in c i))
    where
      go : (is_in c i ≡ true) ⊎ (is_in c i ≡ false) → not (eqb (slot_given (layout ws c) i) 0) ≡ is_in c i
      go (inl y) = ap not (ne_eqb (slot_given (layout ws c) i) 0 (λ z. omega (arith, (layout_in i h y).some))) ∙ sym y
      go (inr y) = ap not (eq-eqb (slot_given (layout ws c) i) 0 (layout_out i h y)) ∙ sym y

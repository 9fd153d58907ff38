-- A set fits exactly where some plan bakes all of it.
use mathlib.Core.Path.{◌≡◌}
use mathlib.Core.Bool.{Bool, true}
use mathlib.Core.List.{List}
use Prim.Native.Nat.{ℕ, ◌≤◌}
use lib.ListN.{length}
use Rattle.lists.specs.Select.{every}
use Rattle.matching.specs.declared.Window.{Window}
use Rattle.matching.specs.Windows.{most_jobs, is_window}
use Rattle.matching.specs.Assignments.{slot_given}
use Rattle.matching.specs.Choice.{all_fit}
use Rattle.matching.specs.Layout.{layout}
use Rattle.matching.specs.Hindsight.{BakesAll}
use Rattle.matching.proofs.Choice.Assigned.{assigned_fits}
use Rattle.matching.proofs.Laying.Whole.{layout_in, layout_plan}

module _ (ws : List Window) (few : length ws ≤ most_jobs) (ok : every is_window ws ≡ true) (c : List Bool) where
  pub fit_assigned : length c ≡ most_jobs → all_fit ws c ≡ true → BakesAll ws c (layout ws c)
  fit_assigned all e = record { plan = layout_plan ws few ok c all e; all = λ i h y. (layout_in ws few ok c all e i h y).some }

  pub assigned_fit : (slots : List ℕ) → BakesAll ws c slots → all_fit ws c ≡ true
  assigned_fit slots b =
      assigned_fits ws ok c (slot_given slots) (record {
        from_first = λ i h y. (b.plan.in_window i h (b.all i h y)).0;
        to_last = λ i h y. (b.plan.in_window i h (b.all i h y)).1;
        apart = λ i j h k y z. b.plan.apart i j h k (b.all i h y);
      })

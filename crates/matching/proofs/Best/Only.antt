-- The layout of the chosen jobs is best, and every best plan bakes the chosen jobs.
use mathlib.Core.Path.{◌≡◌, refl, ◌∙◌}
use mathlib.Core.Bool.{Bool, true, false, not}
use mathlib.Core.List.{List}
use Prim.Native.Nat.{ℕ, suc, ◌≤◌, ◌<◌}
use native.Mathlib.Omega.{arith}
use lib.Dec.{eqb}
use lib.ListN.{length}
use Rattle.lists.specs.Select.{one_if, every}
use Rattle.matching.specs.declared.Window.{Window}
use Rattle.matching.specs.Below.{count_below}
use Rattle.matching.specs.Windows.{most_jobs, is_window}
use Rattle.matching.specs.Assignments.{slot_given, IsBest, baked_of_first}
use Rattle.matching.specs.Choice.{is_in, chosen_to, chosen}
use Rattle.matching.specs.Layout.{layout}
use Rattle.matching.proofs.Below.Counting.{count_cong}
use Rattle.matching.proofs.Choice.Chosen.{chosen_length, chosen_early, chosen_fits}
use Rattle.matching.proofs.Laying.Whole.{layout_plan, layout_bakes, layout_beyond}
use Rattle.matching.proofs.Best.Unbeaten.{unbeaten}

same_one_if : (x y : Bool) → one_if x ≡ one_if y → x ≡ y
unfolding one_if
same_one_if true true e = refl
same_one_if true false e = absurd (omega arith)
same_one_if false true e = absurd (omega arith)
same_one_if false false e = refl

module _ (ws : List Window) (few : length ws ≤ most_jobs) (ok : every is_window ws ≡ true) where
  pub bakes_chosen : (i : ℕ) → i < length ws → not (eqb (slot_given (layout ws (chosen ws)) i) 0) ≡ is_in (chosen ws) i
  unfolding chosen
  bakes_chosen = layout_bakes ws few ok (chosen ws) (chosen_length ws (length ws)) (chosen_fits ws ok (length ws))

  pub zero_past : (i : ℕ) → length ws ≤ i → slot_given (layout ws (chosen ws)) i ≡ 0
  unfolding chosen
  zero_past = layout_beyond ws few ok (chosen ws) (chosen_length ws (length ws)) (chosen_fits ws ok (length ws))

  count_chosen : (m : ℕ) → m ≤ length ws → baked_of_first (layout ws (chosen ws)) m ≡ count_below (is_in (chosen_to ws m)) m
  unfolding baked_of_first chosen
  count_chosen m h =
      count_cong (λ i. not (eqb (slot_given (layout ws (chosen ws)) i) 0)) (is_in (chosen_to ws m)) m
      (λ i k. bakes_chosen i (omega arith) ∙ chosen_early ws (length ws) m i k h)

  pub best : IsBest ws (layout ws (chosen ws))
  unfolding chosen
  best =
      record {
        plan = layout_plan ws few ok (chosen ws) (chosen_length ws (length ws)) (chosen_fits ws ok (length ws));
        most = λ other plan m h. omega (arith, unbeaten ws few ok m h other plan, count_chosen m h);
      }

  module _ (slots : List ℕ) (b : IsBest ws slots) where
    as_many : (m : ℕ) → m ≤ length ws → baked_of_first slots m ≡ baked_of_first (layout ws (chosen ws)) m
    as_many m h = omega (arith, b.most (layout ws (chosen ws)) best.plan m h, best.most slots b.plan m h)

    pub only_choice : (i : ℕ) → i < length ws → not (eqb (slot_given slots i) 0) ≡ is_in (chosen ws) i
    unfolding baked_of_first count_below
    only_choice i h = same_one_if (not (eqb (slot_given slots i) 0)) (not (eqb (slot_given (layout ws (chosen ws)) i) 0)) here ∙ bakes_chosen i h
      where
        here : one_if (not (eqb (slot_given slots i) 0)) ≡ one_if (not (eqb (slot_given (layout ws (chosen ws)) i) 0))
        here = omega (arith, as_many i (omega arith), as_many (suc i) h)

-- Items that arrive on both sides of a tree at once: what arrives on each side, and in all.
use mathlib.Core.Path.{◌≡◌, ap, ◌∙◌}
use mathlib.Core.Bool.{Bool, true, false}
use mathlib.Core.List.{List, ◌++◌}
use Prim.Native.Nat.{ℕ, suc, ◌+◌}
use native.Mathlib.Omega.{arith}
use Rattle.heights.proofs.Trees.Tree.{Tree, total, join_tree}
use Rattle.heights.proofs.Items.Item.{Item, count, count_append}
use Rattle.heights.proofs.Items.Side.{side, lift, side_append}
use Rattle.heights.proofs.Items.Tree.{tree, total_arrive}
use Rattle.heights.proofs.Items.Lift.{lift_count, side_count, side_count_other}

-- Z goes to the 0-side, O to the 1-side
abbrev pub both : List Item → List Item → List Item
both Z O = lift false Z ++ lift true O

-- the counts of a side of two lists
side_sum_append : (b : Bool) (A B : List Item) (s : ℕ) → count (side b (A ++ B)) s ≡ count (side b A) s + count (side b B) s
side_sum_append b A B s = ap (λ (X : List Item). count X s) (side_append b A B) ∙ count_append (side b A) (side b B) s

pub both_zero : (d : ℕ) (X : Tree (suc d)) (Z O : List Item) (s : ℕ)
    → (total d (join_tree (suc d) X (tree (suc d) (both Z O)) false)).at s ≡ (total d (X false)).at s + count Z s
both_zero d X Z O s =
    omega (arith, total_arrive d X (both Z O) false s, side_sum_append false (lift false Z) (lift true O) s, side_count false Z s, side_count_other true O s)

pub both_one : (d : ℕ) (X : Tree (suc d)) (Z O : List Item) (s : ℕ)
    → (total d (join_tree (suc d) X (tree (suc d) (both Z O)) true)).at s ≡ (total d (X true)).at s + count O s
both_one d X Z O s =
    omega (arith, total_arrive d X (both Z O) true s, side_sum_append true (lift false Z) (lift true O) s, side_count_other false Z s, side_count true O s)

pub both_count : (Z O : List Item) (s : ℕ) → count (both Z O) s ≡ count Z s + count O s
both_count Z O s = omega (arith, count_append (lift false Z) (lift true O) s, lift_count false Z s, lift_count true O s)

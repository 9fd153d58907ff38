-- Items that are lifted to side b of a tree: what arrives on that side, on the other, and in all.
use mathlib.Core.Path.{◌≡◌, refl, ap}
use mathlib.Core.Bool.{Bool, not}
use mathlib.Core.List.{List, [], ◌∷◌}
use Prim.Native.Nat.{ℕ, suc, ◌+◌}
use native.Mathlib.Omega.{arith}
use Rattle.heights.proofs.Sides.Board.{whole, whole_at}
use Rattle.heights.proofs.Trees.Tree.{Tree, total, sides, join_tree}
use Rattle.heights.proofs.Items.Item.{Item, count, count_nil, count_cons}
use Rattle.heights.proofs.Items.Side.{side, lift, side_lift, side_lift_other}
use Rattle.heights.proofs.Items.Tree.{tree, total_arrive}

pub lift_count : (b : Bool) (F : List Item) (s : ℕ) → count (lift b F) s ≡ count F s
unfolding lift
lift_count b [] s = refl
lift_count b (p ∷ F) s = omega (arith, count_cons p F s, count_cons (record { last = p.last; grade = b ∷ p.grade }) (lift b F) s, lift_count b F s)

pub side_count : (b : Bool) (F : List Item) (s : ℕ) → count (side b (lift b F)) s ≡ count F s
side_count b F s = ap (λ (X : List Item). count X s) (side_lift b F)

pub side_count_other : (b : Bool) (F : List Item) (s : ℕ) → count (side (not b) (lift b F)) s ≡ 0
side_count_other b F s = omega (arith, ap (λ (X : List Item). count X s) (side_lift_other b F), count_nil s)

-- T with the items F on its side b
abbrev pub arrive : (d : ℕ) → Bool → Tree (suc d) → List Item → Tree (suc d)
arrive d b T F = join_tree (suc d) T (tree (suc d) (lift b F))

pub arrive_here : (d : ℕ) (b : Bool) (T : Tree (suc d)) (F : List Item) (s : ℕ) → (total d (arrive d b T F b)).at s ≡ (total d (T b)).at s + count F s
arrive_here d b T F s = omega (arith, total_arrive d T (lift b F) b s, side_count b F s)

pub arrive_other : (d : ℕ) (b : Bool) (T : Tree (suc d)) (F : List Item) (s : ℕ) → (total d (arrive d b T F (not b))).at s ≡ (total d (T (not b))).at s
arrive_other d b T F s = omega (arith, total_arrive d T (lift b F) (not b) s, side_count_other b F s)

pub arrive_whole : (d : ℕ) (b : Bool) (T : Tree (suc d)) (F : List Item) (s : ℕ)
    → (whole (sides d (arrive d b T F))).at s ≡ (whole (sides d T)).at s + count F s
arrive_whole d b T F s =
    omega (arith, whole_at b (sides d T) s, whole_at b (sides d (arrive d b T F)) s, arrive_here d b T F s, arrive_other d b T F s)

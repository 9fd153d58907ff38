-- The tree of counts of a list of items: its whole counts all of them, the tree of two lists is the join of their trees, and an item that leaves the
-- list leaves the tree on the path of its grade.
use mathlib.Core.Path.{◌≡◌, refl, sym, ap, subst}
use mathlib.Core.Bool.{Bool, true, false, not}
use mathlib.Core.List.{List, [], ◌∷◌, ◌++◌}
use Prim.Native.Nat.{ℕ, zero, suc, ◌+◌, ◌≤◌}
use native.Mathlib.Omega.{arith}
use lib.ListN.{length}
use Rattle.lists.proofs.Less.{Less}
use Rattle.heights.proofs.Sides.Board.{Slot, served}
use Rattle.heights.proofs.Trees.Tree.{Tree, total, join_tree, SameTree, OutTree, same_tree_refl, total_join}
use Rattle.heights.proofs.Items.Item.{Item, count, count_append, part, part_out}
use Rattle.heights.proofs.Items.Side.{next_bit, more_bits, after, side, side_append, side_sum, side_less, side_kept}

unfoldable pub tree : (d : ℕ) → List Item → Tree d
tree zero A = part A
tree (suc d) A = λ b. tree d (side b A)

pub total_tree : (d : ℕ) (A : List Item) (s : ℕ) → (total d (tree d A)).at s ≡ count A s
unfolding total tree
total_tree zero A s = refl
total_tree (suc d) A s = omega (arith, total_tree d (side false A) s, total_tree d (side true A) s, side_sum A s)

pub tree_append : (d n : ℕ) (A B : List Item) → SameTree d n (tree d (A ++ B)) (join_tree d (tree d A) (tree d B))
unfolding tree SameTree join_tree
tree_append zero n A B = record { is = λ s h. count_append A B s }
tree_append (suc d) n A B =
    λ b.
    subst (λ X. SameTree d n (tree d X) (join_tree d (tree d (side b A)) (tree d (side b B)))) (sym (side_append b A B)) (tree_append d n (side b A) (side b B))

-- what arrives on a side
pub total_arrive : (d : ℕ) (T : Tree (suc d)) (F : List Item) (b : Bool) (s : ℕ)
    → (total d (join_tree (suc d) T (tree (suc d) F) b)).at s ≡ (total d (T b)).at s + count (side b F) s
unfolding tree join_tree
total_arrive d T F b s = omega (arith, total_join d (T b) (tree d (side b F)) s, total_tree d (side b F) s)

out_path : (d n : ℕ) (p : Item) (A B : List Item) (w : List Bool) → p.grade ≡ w → Less p A B → n ≤ p.last → length w ≡ d
    → OutTree d n p.last (tree d A) (tree d B) w
unfolding tree OutTree
out_path zero n p A B [] e l h k = part_out l h
out_path zero n p A B (b ∷ w) e l h k = absurd (omega arith)
out_path (suc d) n p A B [] e l h k = absurd (omega arith)
out_path (suc d) n p A B (b ∷ w) e l h k =
    let f : next_bit p.grade ≡ b = unfold next_bit in ap next_bit e in
    let g : more_bits p.grade ≡ w = unfold more_bits in ap more_bits e in (
      out_path d n (after p) (side b A) (side b B) w g (subst (λ x. Less (after p) (side x A) (side x B)) f (side_less l)) h (omega arith),
      subst (λ x. SameTree d (suc n) (tree d (side (not b) A)) (tree d x)) (subst (λ x. side (not x) A ≡ side (not x) B) f (side_kept l))
          (same_tree_refl d (suc n) (tree d (side (not b) A))),
    )

pub tree_out : (d n : ℕ) {p : Item} {A B : List Item} → Less p A B → n ≤ p.last → length p.grade ≡ d
    → OutTree d n p.last (tree d A) (tree d B) p.grade
tree_out d n {p} {A} {B} l h k = out_path d n p A B p.grade refl l h k

-- the future that lists of items make: each slot is served
unfoldable pub slots : (d : ℕ) → List (List Item) → List (Slot (Tree d))
slots d [] = []
slots d (F ∷ fs) = served (tree d F) ∷ slots d fs

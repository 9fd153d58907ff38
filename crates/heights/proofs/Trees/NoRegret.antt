-- The orders of the no-regret set: a job of order j is tight in its side after each of j descents, at each of which the 0-side is chosen if a tight
-- job is there. Order 0 is the tight set; with as many descents as bits it is the no-regret set. Each order lies within the one before.
use mathlib.Core.Bool.{Bool, not}
use mathlib.Core.List.{List, [], ◌∷◌}
use Prim.Native.Nat.{ℕ, zero, suc, ◌≤◌}
use native.Mathlib.Omega.{arith}
use Rattle.heights.proofs.Heights.TightSlot.{TightSlot, tight_same}
use Rattle.heights.proofs.Heights.Removal.{TightOut}
use Rattle.heights.proofs.Sides.Board.{whole}
use Rattle.heights.proofs.Sides.Tight.{Chosen, chosen_within, chosen_same}
use Rattle.heights.proofs.Trees.Tree.{Tree, total, sides, SameTree, OutTree, same_tree_trans, same_tree_later, total_same, total_out, out_tree_same}

-- a tight job of grade w leaves
pub record TightLeaf (d n : ℕ) (S T : Tree d) (w : List Bool) : Type 0 where
  pub slot : ℕ
  pub last : ℕ
  pub tight : TightSlot n (total d S) slot
  pub out : OutTree d n last S T w
  pub within : last ≤ slot

-- side b is chosen, what happens there is Inner, and nothing leaves the other side
pub record Down (d n : ℕ) (S T : Tree (suc d)) (b : Bool) (Inner : Type 0) : Type 0 where
  pub slot : ℕ
  pub chosen : Chosen n slot (sides d S) b
  pub inner : Inner
  pub kept : SameTree d (suc n) (S (not b)) (T (not b))

-- a job of order j and grade w leaves
unfoldable pub NoRegret : (j d n : ℕ) → Tree d → Tree d → List Bool → Type 0
NoRegret zero d n S T w = TightLeaf d n S T w
NoRegret (suc j) zero n S T w = TightLeaf zero n S T w
NoRegret (suc j) (suc d) n S T [] = ⊥
NoRegret (suc j) (suc d) n S T (b ∷ w) = Down d n S T b (NoRegret j d n (S b) (T b) w)

tight_down : (d n : ℕ) (S T : Tree (suc d)) (b : Bool) (w : List Bool) → Down d n S T b (TightLeaf d n (S b) (T b) w)
    → TightLeaf (suc d) n S T (b ∷ w)
unfolding total OutTree
tight_down d n S T b w g =
    let r = g.inner in
    let h : r.last ≤ g.slot = omega (arith, r.within, chosen_within b g.chosen r.tight) in
    record { slot = g.slot; last = r.last; tight = g.chosen.tight; out = (r.out, g.kept); within = h }

-- each order lies within the one before
pub wider : (j d n : ℕ) (S T : Tree d) (w : List Bool) → NoRegret (suc j) d n S T w → NoRegret j d n S T w
unfolding NoRegret
wider zero zero n S T w g = g
wider zero (suc d) n S T [] g = absurd g
wider zero (suc d) n S T (b ∷ w) g = tight_down d n S T b w g
wider (suc j) zero n S T w g = g
wider (suc j) (suc d) n S T [] g = g
wider (suc j) (suc d) n S T (b ∷ w) g =
    record { slot = g.slot; chosen = g.chosen; inner = wider j d n (S b) (T b) w g.inner; kept = g.kept }

-- and so within the tight set
pub widest : (j d n : ℕ) (S T : Tree d) (w : List Bool) → NoRegret j d n S T w → TightLeaf d n S T w
unfolding NoRegret
widest zero d n S T w g = g
widest (suc j) d n S T w g = widest j d n S T w (wider j d n S T w g)

pub tight_total : (d n : ℕ) (S T : Tree d) (w : List Bool) → TightLeaf d n S T w → TightOut n (total d S) (total d T)
tight_total d n S T w g = record { slot = g.slot; last = g.last; tight = g.tight; out = total_out d n g.last S T w g.out; within = g.within }

pub no_regret_tight : (j d n : ℕ) (S T : Tree d) (w : List Bool) → NoRegret j d n S T w → TightOut n (total d S) (total d T)
no_regret_tight j d n S T w g = tight_total d n S T w (widest j d n S T w g)

-- the same for the two sides as one part
pub no_regret_whole : (j d n : ℕ) (S T : Tree (suc d)) (w : List Bool) → NoRegret j (suc d) n S T w
    → TightOut n (whole (sides d S)) (whole (sides d T))
no_regret_whole j d n S T w g = unfold total in (no_regret_tight j (suc d) n S T w g)

-- only the counts from n on matter
tight_leaf_same : (d n : ℕ) (R S T : Tree d) (w : List Bool) → SameTree d n R S → TightLeaf d n S T w → TightLeaf d n R T w
tight_leaf_same d n R S T w e g =
    record {
      slot = g.slot;
      last = g.last;
      tight = tight_same (total_same d n R S e) g.tight;
      out = out_tree_same d n g.last R S T w e g.out;
      within = g.within;
    }

pub no_regret_same : (j d n : ℕ) (R S T : Tree d) (w : List Bool) → SameTree d n R S → NoRegret j d n S T w → NoRegret j d n R T w
unfolding NoRegret SameTree
no_regret_same zero d n R S T w e g = tight_leaf_same d n R S T w e g
no_regret_same (suc j) zero n R S T w e g = tight_leaf_same zero n R S T w e g
no_regret_same (suc j) (suc d) n R S T [] e g = g
no_regret_same (suc j) (suc d) n R S T (b ∷ w) e g =
    record {
      slot = g.slot;
      chosen = chosen_same b (λ x. total_same d n (R x) (S x) (e x)) g.chosen;
      inner = no_regret_same j d n (R b) (S b) (T b) w (e b) g.inner;
      kept =
          same_tree_trans d (suc n) (R (not b)) (S (not b)) (T (not b)) (same_tree_later d n (suc n) (R (not b)) (S (not b)) (omega arith) (e (not b))) g.kept;
    }

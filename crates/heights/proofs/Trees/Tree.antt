-- A board of jobs with grades of d bits, as a tree of parts: its side at false holds the grades that go on with 0, its side at true those with 1.
-- What trees have in common from a slot on, what it is for a job to leave one, and what both do to the whole.
use mathlib.Core.Path.{◌≡◌, refl, ap}
use mathlib.Core.Bool.{Bool, true, false, not}
use mathlib.Core.List.{List, [], ◌∷◌}
use Prim.Native.Nat.{ℕ, zero, suc, ◌+◌, ◌≤◌}
use native.Mathlib.Omega.{arith}
use lib.ListN.{length}
use Rattle.heights.proofs.Heights.Part.{Part, ◌⊕◌, Same, same_refl, same_sym, same_trans, same_later, same_join, Out, out_same}
use Rattle.heights.proofs.Sides.Board.{Sides, out_side}

abbrev pub Tree : ℕ → Type 0
Tree zero = Part
Tree (suc d) = Bool → Tree d

-- all jobs of a tree
unfoldable pub total : (d : ℕ) → Tree d → Part
total zero A = A
total (suc d) S = total d (S false) ⊕ total d (S true)

-- the two sides, each as one part
abbrev pub sides : (d : ℕ) → Tree (suc d) → Sides
sides d S = λ b. total d (S b)

unfoldable pub join_tree : (d : ℕ) → Tree d → Tree d → Tree d
join_tree zero A B = A ⊕ B
join_tree (suc d) S T = λ b. join_tree d (S b) (T b)

-- the same counts from slot n on
unfoldable pub SameTree : (d n : ℕ) → Tree d → Tree d → Type 0
SameTree zero n A B = Same n A B
SameTree (suc d) n S T = (b : Bool) → SameTree d n (S b) (T b)

-- in slot n a job with last slot p and grade w leaves
unfoldable pub OutTree : (d n p : ℕ) → Tree d → Tree d → List Bool → Type 0
OutTree zero n p A B [] = Out n p A B
OutTree zero n p A B (b ∷ w) = ⊥
OutTree (suc d) n p S T [] = ⊥
OutTree (suc d) n p S T (b ∷ w) = OutTree d n p (S b) (T b) w × SameTree d (suc n) (S (not b)) (T (not b))

pub same_tree_refl : (d n : ℕ) (S : Tree d) → SameTree d n S S
unfolding SameTree
same_tree_refl zero n S = same_refl n S
same_tree_refl (suc d) n S = λ b. same_tree_refl d n (S b)

pub same_tree_sym : (d n : ℕ) (S T : Tree d) → SameTree d n S T → SameTree d n T S
unfolding SameTree
same_tree_sym zero n S T e = same_sym e
same_tree_sym (suc d) n S T e = λ b. same_tree_sym d n (S b) (T b) (e b)

pub same_tree_trans : (d n : ℕ) (R S T : Tree d) → SameTree d n R S → SameTree d n S T → SameTree d n R T
unfolding SameTree
same_tree_trans zero n R S T e f = same_trans e f
same_tree_trans (suc d) n R S T e f = λ b. same_tree_trans d n (R b) (S b) (T b) (e b) (f b)

pub same_tree_later : (d n m : ℕ) (S T : Tree d) → n ≤ m → SameTree d n S T → SameTree d m S T
unfolding SameTree
same_tree_later zero n m S T h e = same_later m h e
same_tree_later (suc d) n m S T h e = λ b. same_tree_later d n m (S b) (T b) h (e b)

pub total_same : (d n : ℕ) (S T : Tree d) → SameTree d n S T → Same n (total d S) (total d T)
unfolding total SameTree
total_same zero n S T e = e
total_same (suc d) n S T e = same_join (total_same d n (S false) (T false) (e false)) (total_same d n (S true) (T true) (e true))

pub total_join : (d : ℕ) (S T : Tree d) (s : ℕ) → (total d (join_tree d S T)).at s ≡ (total d S).at s + (total d T).at s
unfolding total join_tree
total_join zero S T s = refl
total_join (suc d) S T s = omega (arith, total_join d (S false) (T false) s, total_join d (S true) (T true) s)

pub total_out : (d n p : ℕ) (S T : Tree d) (w : List Bool) → OutTree d n p S T w → Out n p (total d S) (total d T)
unfolding total OutTree
total_out zero n p S T [] o = o
total_out zero n p S T (b ∷ w) o = absurd o
total_out (suc d) n p S T [] o = absurd o
total_out (suc d) n p S T (b ∷ w) o =
    out_side b (sides d S) (sides d T) (total_out d n p (S b) (T b) w o.0) (total_same d (suc n) (S (not b)) (T (not b)) o.1)

-- the grade has d bits
pub out_length : (d n p : ℕ) (S T : Tree d) (w : List Bool) → OutTree d n p S T w → length w ≡ d
unfolding OutTree
out_length zero n p S T [] o = refl
out_length zero n p S T (b ∷ w) o = absurd o
out_length (suc d) n p S T [] o = absurd o
out_length (suc d) n p S T (b ∷ w) o = ap suc (out_length d n p (S b) (T b) w o.0)

-- only the counts from n on matter
pub out_tree_same : (d n p : ℕ) (R S T : Tree d) (w : List Bool) → SameTree d n R S → OutTree d n p S T w → OutTree d n p R T w
unfolding OutTree SameTree
out_tree_same zero n p R S T [] e o = out_same e o
out_tree_same zero n p R S T (b ∷ w) e o = absurd o
out_tree_same (suc d) n p R S T [] e o = absurd o
out_tree_same (suc d) n p R S T (b ∷ w) e o = (
  out_tree_same d n p (R b) (S b) (T b) w (e b) o.0,
  same_tree_trans d (suc n) (R (not b)) (S (not b)) (T (not b)) (same_tree_later d n (suc n) (R (not b)) (S (not b)) (omega arith) (e (not b))) o.1,
)

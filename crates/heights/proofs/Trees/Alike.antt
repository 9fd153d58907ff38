-- Two trees whose sides are alike: the same side is chosen in both, and the sides stay alike when jobs of positive order leave, when time passes, and
-- when the same jobs arrive.
use mathlib.Core.Path.{◌≡◌}
use mathlib.Core.Bool.{Bool, true, false, not}
use mathlib.Core.List.{List}
use Prim.Native.Nat.{ℕ, suc}
use native.Mathlib.Omega.{arith}
use Rattle.heights.proofs.Heights.Part.{Part}
use Rattle.heights.proofs.Heights.Reach.{Reach, Alike, alike_join, alike_sum, alike_same}
use Rattle.heights.proofs.Heights.Removal.{alike_out}
use Rattle.heights.proofs.Sides.Board.{each_bit}
use Rattle.heights.proofs.Trees.Tree.{Tree, total, join_tree, SameTree, total_same, total_join}
use Rattle.heights.proofs.Trees.NoRegret.{Down, NoRegret, no_regret_tight}

abbrev pub AlikeSides : (d n : ℕ) → Tree (suc d) → Tree (suc d) → Type 0
AlikeSides d n S T = (b : Bool) → Alike n (total d (S b)) (total d (T b))

pub alike_total : (d n : ℕ) (S T : Tree (suc d)) → AlikeSides d n S T → Alike n (total (suc d) S) (total (suc d) T)
unfolding total
alike_total d n S T a = alike_sum (a false) (a true)

reach_at : {n : ℕ} {A B C D : Part} → Reach n 0 A C → ((s : ℕ) → B.at s ≡ A.at s) → ((s : ℕ) → D.at s ≡ C.at s) → Reach n 0 B D
reach_at r e f = record { to = λ s h. let t = r.to s h in (t.0, t.1, omega (arith, e s, f t.0)) }

pub alike_arrive : (d n : ℕ) (S T F : Tree d) → Alike n (total d S) (total d T) → Alike n (total d (join_tree d S F)) (total d (join_tree d T F))
alike_arrive d n S T F a =
    let r = alike_join (total d F) a in
    record { to = reach_at r.to (total_join d S F) (total_join d T F); fro = reach_at r.fro (total_join d T F) (total_join d S F) }

pub alike_pass : (d n : ℕ) (S T A B : Tree d) → Alike n (total d S) (total d T) → SameTree d (suc n) S A → SameTree d (suc n) T B
    → Alike (suc n) (total d A) (total d B)
alike_pass d n S T A B a k l = alike_same a (total_same d (suc n) S A k) (total_same d (suc n) T B l)

pub sides_arrive : (d n : ℕ) (S T F : Tree (suc d)) → AlikeSides d n S T → AlikeSides d n (join_tree (suc d) S F) (join_tree (suc d) T F)
unfolding join_tree
sides_arrive d n S T F a = λ b. alike_arrive d n (S b) (T b) (F b) (a b)

pub sides_pass : (d n : ℕ) (S T A B : Tree (suc d)) → AlikeSides d n S T → SameTree (suc d) (suc n) S A → SameTree (suc d) (suc n) T B
    → AlikeSides d (suc n) A B
unfolding SameTree
sides_pass d n S T A B a k l = λ b. alike_pass d n (S b) (T b) (A b) (B b) (a b) (k b) (l b)

-- jobs leave the side chosen
pub sides_out : (i j d n : ℕ) (S T A B : Tree (suc d)) (b : Bool) (w v : List Bool) → AlikeSides d n S T
    → Down d n S A b (NoRegret i d n (S b) (A b) w)
    → Down d n T B b (NoRegret j d n (T b) (B b) v) → AlikeSides d (suc n) A B
sides_out i j d n S T A B b w v a x y =
    each_bit (λ c. Alike (suc n) (total d (A c)) (total d (B c))) b
    (alike_out (a b) (no_regret_tight i d n (S b) (A b) w x.inner) (no_regret_tight j d n (T b) (B b) v y.inner))
    (alike_pass d n (S (not b)) (T (not b)) (A (not b)) (B (not b)) (a (not b)) x.kept y.kept)

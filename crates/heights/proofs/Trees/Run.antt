-- Runs of order j: in each served slot a job of order j leaves, or the board is empty. The count of a run says for each start v how many of the
-- jobs that left have a grade that starts with v. A run of order j + 1 is one of order j.
use mathlib.Core.Path.{◌≡◌, refl}
use mathlib.Core.Bool.{Bool, true, false, not}
use mathlib.Core.List.{List, [], ◌∷◌}
use Prim.Native.Nat.{ℕ, suc, ◌+◌}
use native.Mathlib.Omega.{arith}
use Rattle.heights.proofs.Sides.Board.{Slot, served, idle}
use Rattle.heights.proofs.Trees.Tree.{Tree, total, join_tree, SameTree, same_tree_trans, same_tree_later, total_same}
use Rattle.heights.proofs.Trees.NoRegret.{NoRegret, no_regret_same}

-- 1 if w starts with v, else 0
unfoldable pub starts : List Bool → List Bool → ℕ
starts [] w = 1
starts (b ∷ v) [] = 0
starts (true ∷ v) (true ∷ w) = starts v w
starts (true ∷ v) (false ∷ w) = 0
starts (false ∷ v) (true ∷ w) = 0
starts (false ∷ v) (false ∷ w) = starts v w

pub starts_here : (b : Bool) (v w : List Bool) → starts (b ∷ v) (b ∷ w) ≡ starts v w
unfolding starts
starts_here false v w = refl
starts_here true v w = refl

pub starts_other : (b : Bool) (v w : List Bool) → starts (not b ∷ v) (b ∷ w) ≡ 0
unfolding starts
starts_other false v w = refl
starts_other true v w = refl

abbrev pub Count : Type 0
Count = List Bool → ℕ

-- one served slot, from S to T; the last index is what it adds to the count
pub data Step (j d n : ℕ) (S T : Tree d) : Count → Type 0 where
  rest : (total d S).at n ≡ 0 → SameTree d (suc n) S T → Step j d n S T (λ v. 0)
  take : (w : List Bool) → NoRegret j d n S T w → Step j d n S T (λ v. starts v w)

pub data Run (j d : ℕ) : ℕ → Tree d → List (Slot (Tree d)) → Count → Type 0 where
  stop : {n : ℕ} {S : Tree d} {c : Count} → ((v : List Bool) → c v ≡ 0) → Run j d n S [] c
  pass : {n : ℕ} {S F : Tree d} {fs : List (Slot (Tree d))} {c : Count} (T : Tree d) → SameTree d (suc n) S T → Run j d (suc n) (join_tree d T F) fs c
      → Run j d n S (idle F ∷ fs) c
  serve : {n : ℕ} {S F : Tree d} {fs : List (Slot (Tree d))} {c : Count} (T : Tree d) (g e : Count) → Step j d n S T g
      → Run j d (suc n) (join_tree d T F) fs e → ((v : List Bool) → c v ≡ g v + e v) → Run j d n S (served F ∷ fs) c

-- along no future nothing is taken
pub run_empty : {j d n : ℕ} {S : Tree d} {c : Count} → Run j d n S [] c → (v : List Bool) → c v ≡ 0
run_empty (stop z) v = z v

pub run_count : {j d n : ℕ} {S : Tree d} {fs : List (Slot (Tree d))} {b c : Count} → ((v : List Bool) → b v ≡ c v) → Run j d n S fs b
    → Run j d n S fs c
run_count {c = c} h (stop z) = stop {c = c} (λ v. omega (arith, h v, z v))
run_count h (pass T s r) = pass T s (run_count h r)
run_count {c = c} h (serve T g e s r q) = serve {c = c} T g e s r (λ v. omega (arith, h v, q v))

-- only the counts from n on matter
step_same : {j d n : ℕ} {R S T : Tree d} {g : Count} → SameTree d n R S → Step j d n S T g → Step j d n R T g
step_same {d = d} {n} {R} {S} {T} e (rest z k) =
    rest (omega (arith, (total_same d n R S e).is n (omega arith))) (same_tree_trans d (suc n) R S T (same_tree_later d n (suc n) R S (omega arith) e) k)
step_same {j} {d} {n} {R} {S} {T} e (take w g) = take w (no_regret_same j d n R S T w e g)

pub run_same : {j d n : ℕ} {R S : Tree d} {fs : List (Slot (Tree d))} {c : Count} → SameTree d n R S → Run j d n S fs c → Run j d n R fs c
run_same e (stop z) = stop z
run_same {d = d} {n} {R} {S} e (pass T s r) = pass T (same_tree_trans d (suc n) R S T (same_tree_later d n (suc n) R S (omega arith) e) s) r
run_same e (serve T g b s r q) = serve T g b (step_same e s) r q

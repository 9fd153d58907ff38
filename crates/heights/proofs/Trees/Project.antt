-- Two runs of positive orders on one future, from boards with alike sides, seen on one side b: they are runs of one order less on one future of that side.
use mathlib.Core.Path.{◌≡◌, sym, subst}
use mathlib.Core.Bool.{Bool, not}
use mathlib.Core.List.{List, [], ◌∷◌}
use Prim.Native.Nat.{ℕ, suc, ◌+◌}
use native.Mathlib.Omega.{arith}
use Rattle.heights.proofs.Heights.Reach.{reach_none}
use Rattle.heights.proofs.Heights.Removal.{tight_some}
use Rattle.heights.proofs.Sides.Ahead.{same_bit}
use Rattle.heights.proofs.Sides.Board.{Slot, served, idle, each_bit}
use Rattle.heights.proofs.Trees.Tree.{Tree, join_tree, SameTree}
use Rattle.heights.proofs.Trees.NoRegret.{Down, NoRegret, no_regret_tight}
use Rattle.heights.proofs.Trees.Run.{starts, starts_here, starts_other, Count, Step, rest, take, Run, stop, pass, serve, run_count}
use Rattle.heights.proofs.Trees.Alike.{AlikeSides, alike_total, sides_arrive, sides_pass, sides_out}

-- the counts on a side: of the bit of a job that left, and of the other
count_here : (c e : Count) (b : Bool) (w : List Bool) → ((v : List Bool) → c v ≡ starts v (b ∷ w) + e v) → (v : List Bool)
    → c (b ∷ v) ≡ starts v w + e (b ∷ v)
count_here c e b w h v = omega (arith, h (b ∷ v), starts_here b v w)

count_other : (c e : Count) (b : Bool) (w : List Bool) → ((v : List Bool) → c v ≡ starts v (b ∷ w) + e v) → (v : List Bool)
    → e (not b ∷ v) ≡ c (not b ∷ v)
count_other c e b w h v = omega (arith, h (not b ∷ v), starts_other b v w)

-- what is left of two runs on a side
abbrev pub OnSide : (i j d n : ℕ) → Tree (suc d) → Tree (suc d) → Count → Count → Bool → Type 0
OnSide i j d n S T c e b = (gs : List (Slot (Tree d))) × Run i d n (S b) gs (λ v. c (b ∷ v)) × Run j d n (T b) gs (λ v. e (b ∷ v))

module _ (i j d : ℕ) {n : ℕ} (F S T A B : Tree (suc d)) (c e c' e' : Count) where
  -- both boards lose nothing
  both_pass : (b : Bool) → SameTree (suc d) (suc n) S A → SameTree (suc d) (suc n) T B → ((v : List Bool) → c v ≡ 0 + c' v)
      → ((v : List Bool) → e v ≡ 0 + e' v)
      → OnSide i j d (suc n) (join_tree (suc d) A F) (join_tree (suc d) B F) c' e' b → OnSide i j d n S T c e b
  unfolding SameTree join_tree
  both_pass b s t p q r = (
    idle (F b) ∷ r.0,
    pass {c = λ v. c (b ∷ v)} (A b) (s b) (run_count (λ v. omega (arith, p (b ∷ v))) r.1),
    pass {c = λ v. e (b ∷ v)} (B b) (t b) (run_count (λ v. omega (arith, q (b ∷ v))) r.2),
  )

  -- both lose a job of side x
  both_down : (b x : Bool) (w v : List Bool) → Down d n S A x (NoRegret i d n (S x) (A x) w) → Down d n T B x (NoRegret j d n (T x) (B x) v)
      → ((u : List Bool) → c u ≡ starts u (x ∷ w) + c' u) → ((u : List Bool) → e u ≡ starts u (x ∷ v) + e' u)
      → ((b : Bool) → OnSide i j d (suc n) (join_tree (suc d) A F) (join_tree (suc d) B F) c' e' b) → OnSide i j d n S T c e b
  unfolding join_tree
  both_down b x w v g h p q r =
      each_bit (OnSide i j d n S T c e) x (
        served (F x) ∷ (r x).0,
        serve (A x) (λ u. starts u w) (λ u. c' (x ∷ u)) (take w g.inner) (r x).1 (count_here c c' x w p),
        serve (B x) (λ u. starts u v) (λ u. e' (x ∷ u)) (take v h.inner) (r x).2 (count_here e e' x v q),
      ) (
        idle (F (not x)) ∷ (r (not x)).0,
        pass (A (not x)) g.kept (run_count (count_other c c' x w p) (r (not x)).1),
        pass (B (not x)) h.kept (run_count (count_other e e' x v q) (r (not x)).2),
      )
      b

both_step : (i j d : ℕ) {n : ℕ} {g h : Count} (F S T A B : Tree (suc d)) (c e c' e' : Count) (b : Bool) → AlikeSides d n S T
    → Step (suc i) (suc d) n S A g
    → Step (suc j) (suc d) n T B h → ((v : List Bool) → c v ≡ g v + c' v) → ((v : List Bool) → e v ≡ h v + e' v)
    → (AlikeSides d (suc n) (join_tree (suc d) A F) (join_tree (suc d) B F)
    → (b : Bool) → OnSide i j d (suc n) (join_tree (suc d) A F) (join_tree (suc d) B F) c' e' b) → OnSide i j d n S T c e b
unfolding NoRegret
both_step i j d {n} F S T A B c e c' e' b a (rest x s) (rest y t) p q ih =
    both_pass i j d F S T A B c e c' e' b s t p q (ih (sides_arrive d (suc n) A B F (sides_pass d n S T A B a s t)) b)
both_step i j d {n} F S T A B c e c' e' b a (rest x s) (take w g) p q ih =
    absurd (tight_some (no_regret_tight (suc j) (suc d) n T B w g) (reach_none (alike_total d n S T a).to x))
both_step i j d {n} F S T A B c e c' e' b a (take w g) (rest x s) p q ih =
    absurd (tight_some (no_regret_tight (suc i) (suc d) n S A w g) (reach_none (alike_total d n S T a).fro x))
both_step i j d F S T A B c e c' e' b a (take [] g) (take v h) p q ih = absurd g
both_step i j d F S T A B c e c' e' b a (take (x ∷ w) g) (take [] h) p q ih = absurd h
both_step i j d {n} F S T A B c e c' e' b a (take (x ∷ w) g) (take (y ∷ v) h) p q ih =
    go (same_bit x y a g.chosen h.chosen) h q
  where
    go : {y : Bool} → x ≡ y → Down d n T B y (NoRegret j d n (T y) (B y) v) → ((u : List Bool) → e u ≡ starts u (y ∷ v) + e' u)
        → OnSide i j d n S T c e b
    go z h q =
        let h' = subst (λ y. Down d n T B y (NoRegret j d n (T y) (B y) v)) (sym z) h in
        let q' = subst (λ y. (u : List Bool) → e u ≡ starts u (y ∷ v) + e' u) (sym z) q in
        both_down i j d F S T A B c e c' e' b x w v g h' p q' (ih (sides_arrive d (suc n) A B F (sides_out i j d n S T A B x w v a g h')))

pub project : (i j d : ℕ) {n : ℕ} {fs : List (Slot (Tree (suc d)))} (S T : Tree (suc d)) (c e : Count) (b : Bool) → AlikeSides d n S T
    → Run (suc i) (suc d) n S fs c → Run (suc j) (suc d) n T fs e → OnSide i j d n S T c e b
project i j d S T c e b a (stop p) (stop q) = ([], stop (λ v. p (b ∷ v)), stop (λ v. q (b ∷ v)))
project i j d {n} S T c e b a (pass {F = F} A s p) (pass B t q) =
    both_pass i j d F S T A B c e c e b s t (λ v. omega arith) (λ v. omega arith)
    (project i j d (join_tree (suc d) A F) (join_tree (suc d) B F) c e b (sides_arrive d (suc n) A B F (sides_pass d n S T A B a s t)) p q)
project i j d S T c e b a (serve {F = F} A g c' s p x) (serve B h e' t q y) =
    both_step i j d F S T A B c e c' e' b a s t x y
    (λ a' b'. project i j d (join_tree (suc d) A F) (join_tree (suc d) B F) c' e' b' a' p q)

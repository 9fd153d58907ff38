-- A tree seen as a board of two sides: a run of order 0 is a tight run there, and a run of order 1 a good run, with the count of the start 0.
use mathlib.Core.Path.{◌≡◌, refl, sym, subst}
use mathlib.Core.Bool.{Bool, true, false, not}
use mathlib.Core.List.{List, [], ◌∷◌}
use Prim.Native.Nat.{ℕ, suc}
use native.Mathlib.Omega.{arith}
use Rattle.heights.proofs.Heights.Part.{Same, same_trans, same_later, out_same}
use Rattle.heights.proofs.Heights.TightSlot.{tight_same}
use Rattle.heights.proofs.Sides.Board.{Sides, whole, join, SameSides, whole_same, Slot, served, idle}
use Rattle.heights.proofs.Sides.Tight.{chosen_same}
use Rattle.heights.proofs.Sides.Run.{zeros, TightStep, GoodStep, Along, TightRun, GoodRun}
use Rattle.heights.proofs.Trees.Tree.{Tree, total, sides, join_tree, SameTree, OutTree, total_same, total_join, total_out}
use Rattle.heights.proofs.Trees.NoRegret.{NoRegret}
use Rattle.heights.proofs.Trees.Run.{starts, Count, Step, rest, take, Run, stop, pass, serve}

abbrev pub zero_bit : List Bool
zero_bit = false ∷ []

pub starts_zero : (b : Bool) (w : List Bool) → starts zero_bit (b ∷ w) ≡ zeros b
unfolding starts
starts_zero false w = refl
starts_zero true w = refl

unfoldable pub flat : (d : ℕ) → List (Slot (Tree (suc d))) → List (Slot Sides)
flat d [] = []
flat d (served F ∷ fs) = served (sides d F) ∷ flat d fs
flat d (idle F ∷ fs) = idle (sides d F) ∷ flat d fs

-- P has the counts of S from n on, and nothing leaves side x of S
flat_kept : (d n : ℕ) {P : Sides} (S T : Tree (suc d)) (x : Bool) → SameSides n P (sides d S) → SameTree d (suc n) (S x) (T x)
    → Same (suc n) (P x) (sides d T x)
flat_kept d n S T x a k = same_trans (same_later (suc n) (omega arith) (a x)) (total_same d (suc n) (S x) (T x) k)

-- nor any side
flat_pass : (d n : ℕ) {P : Sides} (S T : Tree (suc d)) → SameSides n P (sides d S) → SameTree (suc d) (suc n) S T → SameSides (suc n) P (sides d T)
unfolding SameTree
flat_pass d n S T a k = λ b. flat_kept d n S T b a (k b)

flat_empty : (d n : ℕ) {P : Sides} (S : Tree (suc d)) → SameSides n P (sides d S) → (total (suc d) S).at n ≡ 0 → (whole P).at n ≡ 0
unfolding total
flat_empty d n S a e = omega (arith, (a false).is n (omega arith), (a true).is n (omega arith))

flat_next : (d n : ℕ) (T F : Tree (suc d)) → SameSides n (join (sides d T) (sides d F)) (sides d (join_tree (suc d) T F))
unfolding join_tree
flat_next d n T F = λ b. record { is = λ s h. sym (total_join d (T b) (F b) s) }

good_step : (d n : ℕ) (g : Count) (P : Sides) (S T : Tree (suc d)) → SameSides n P (sides d S) → Step 1 (suc d) n S T g
    → GoodStep n P (sides d T) (g zero_bit)
unfolding NoRegret
good_step d n g₀ P S T a (rest z k) = GoodStep.rest (flat_empty d n S a z) (flat_pass d n S T a k)
good_step d n g₀ P S T a (take [] g) = absurd g
good_step d n g₀ P S T a (take (b ∷ w) g) =
    let t = g.inner in
    subst (GoodStep n P (sides d T)) (sym (starts_zero b w))
    (
    GoodStep.take b g.slot (chosen_same b a g.chosen)
    record {
      slot = t.slot;
      last = t.last;
      tight = tight_same (a b) t.tight;
      out = out_same (a b) (total_out d n t.last (S b) (T b) w t.out);
      within = t.within;
      kept = flat_kept d n S T (not b) a g.kept;
    }
    )

tight_step : (d n : ℕ) (g : Count) (P : Sides) (S T : Tree (suc d)) → SameSides n P (sides d S) → Step 0 (suc d) n S T g
    → TightStep n P (sides d T) (g zero_bit)
unfolding NoRegret OutTree total
tight_step d n g₀ P S T a (rest z k) = TightStep.rest (flat_empty d n S a z) (flat_pass d n S T a k)
tight_step d n g₀ P S T a (take [] g) = absurd g.out
tight_step d n g₀ P S T a (take (b ∷ w) g) =
    subst (TightStep n P (sides d T)) (sym (starts_zero b w))
    (
    TightStep.take b
    record {
      slot = g.slot;
      last = g.last;
      tight = tight_same (whole_same a) g.tight;
      out = out_same (a b) (total_out d n g.last (S b) (T b) w g.out.0);
      within = g.within;
      kept = flat_kept d n S T (not b) a g.out.1;
    }
    )

-- a run, where its steps are seen so
flat_run : (Flat : ℕ → Sides → Sides → ℕ → Type 0) (j d : ℕ)
    → ((n : ℕ) (g : Count) (P : Sides) (S T : Tree (suc d)) → SameSides n P (sides d S) → Step j (suc d) n S T g → Flat n P (sides d T) (g zero_bit))
    → (n : ℕ) (fs : List (Slot (Tree (suc d)))) (P : Sides) (S : Tree (suc d)) (c : Count) → SameSides n P (sides d S) → Run j (suc d) n S fs c
    → Along Flat n P (flat d fs) (c zero_bit)
unfolding flat
flat_run Flat j d f n [] P S c a (stop z) = subst (Along Flat n P []) (sym (z zero_bit)) Along.stop
flat_run Flat j d f n (idle F ∷ fs) P S c a (pass T s r) =
    Along.pass (sides d T) (flat_pass d n S T a s)
    (flat_run Flat j d f (suc n) fs (join (sides d T) (sides d F)) (join_tree (suc d) T F) c (flat_next d (suc n) T F) r)
flat_run Flat j d f n (served F ∷ fs) P S c a (serve T g e s r q) =
    Along.serve (sides d T) (g zero_bit) (e zero_bit) (f n g P S T a s)
    (flat_run Flat j d f (suc n) fs (join (sides d T) (sides d F)) (join_tree (suc d) T F) e (flat_next d (suc n) T F) r) (q zero_bit)

pub flat_good : (d : ℕ) {n : ℕ} {fs : List (Slot (Tree (suc d)))} (S : Tree (suc d)) (c : Count) → Run 1 (suc d) n S fs c
    → GoodRun n (sides d S) (flat d fs) (c zero_bit)
flat_good d {n} {fs} S c r = flat_run GoodStep 1 d (good_step d) n fs (sides d S) S c (λ b. record { is = λ s h. refl }) r

pub flat_tight : (d : ℕ) {n : ℕ} {fs : List (Slot (Tree (suc d)))} (S : Tree (suc d)) (c : Count) → Run 0 (suc d) n S fs c
    → TightRun n (sides d S) (flat d fs) (c zero_bit)
flat_tight d {n} {fs} S c r = flat_run TightStep 0 d (tight_step d) n fs (sides d S) S c (λ b. record { is = λ s h. refl }) r

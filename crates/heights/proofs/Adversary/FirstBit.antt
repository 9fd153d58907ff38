-- Two jobs leave one board, the first of order 0 and not of order 1, the second of order 1: by their first bits the first is behind, or there is a trap.
-- If no allowed grade goes on with 1, nothing is on the 1-side, and what is tight is tight on the 0-side.
use mathlib.Core.Path.{◌≡◌, refl}
use mathlib.Core.Bool.{Bool, true, false}
use mathlib.Core.Logic.{◌⊎◌, inl, inr, ⊎_elim}
use mathlib.Core.List.{List, [], ◌∷◌}
use Prim.Native.Nat.{ℕ, suc, ◌≤◌, ◌<◌}
use native.Mathlib.Omega.{arith}
use Rattle.heights.proofs.Heights.Part.{Same, cmp, fall_in}
use Rattle.heights.proofs.Heights.TightSlot.{TightSlot, tight_unique, tight_same}
use Rattle.heights.proofs.Sides.Board.{whole}
use Rattle.heights.proofs.Sides.Tight.{Chosen, chosen_one, TightTake, SideTake}
use Rattle.heights.proofs.Trees.Tree.{Tree, total, sides, OutTree, total_same, total_out, out_length}
use Rattle.heights.proofs.Trees.NoRegret.{TightLeaf, Down, NoRegret}
use Rattle.heights.proofs.Trees.Run.{starts}
use Rattle.heights.proofs.Adversary.Allowed.{Grades, beyond, Only, find, only_none, only_out}
use Rattle.heights.proofs.Adversary.Trap.{Trap, Behind}
use Rattle.heights.proofs.Adversary.Bottom.{bottom_trap}

-- where nothing is on the 1-side, the 0-side is the whole
alone : {n l m : ℕ} (d : ℕ) (S : Tree (suc d)) → (total d (S true)).at n ≡ 0 → TightSlot n (whole (sides d S)) l → TightSlot n (total d (S false)) m
    → l ≡ m
alone {n} d S z T U =
    let e : Same n (total d (S false)) (whole (sides d S)) = record { is = λ s h. omega (arith, (total d (S true)).anti n s h) } in
    tight_unique (tight_same e T) U

-- both take a 0-job, and the first is not tight on the 0-side
zero_zero : (ok : Grades) (d n L : ℕ) (S A B : Tree (suc d)) (w v : List Bool) → Only ok (suc d) n S → TightSlot n (whole (sides d S)) L
    → (g : Down d n S B false (TightLeaf d n (S false) (B false) v)) (a : TightLeaf (suc d) n S A (false ∷ w)) → g.inner.slot < a.last
    → Trap ok 0 (suc d) n L A B (false ∷ w) (false ∷ v)
unfolding total OutTree Only starts
zero_zero ok d n L S A B w v o T g a h =
    let r = g.inner in
    let p = total_out d n a.last (S false) (A false) w a.out.0 in
    let q = total_out d n r.last (S false) (B false) v r.out in
    let l = tight_unique a.tight T in
    let ta : TightTake n (sides d S) (sides d A) false =
    record { slot = L; last = a.last; tight = T; out = p; within = omega (arith, a.within); kept = total_same d (suc n) (S true) (A true) a.out.1 }
    in
    let tb : SideTake n (sides d S) (sides d B) false =
    record { slot = r.slot; last = r.last; tight = r.tight; out = q; within = r.within; kept = total_same d (suc n) (S true) (B true) g.kept }
    in
    ⊎_elim
    {C = Trap ok 0 (suc d) n L A B (false ∷ w) (false ∷ v)}
    (λ f.
    bottom_trap ok d n S A B (false ∷ w) (false ∷ v) w f.0 ta tb h refl refl
    (only_out (beyond false ok) d n a.last (S false) (A false) w (o false) a.out.0)
    (out_length d n a.last (S false) (A false) w a.out.0) f.2 f.1)
    (λ f. absurd (omega (arith, a.within, alone d S (only_none (beyond true ok) d n (S true) (o true) f) T r.tight)))
    (find d (beyond true ok))

-- a tight job that is tight on its side, the side chosen, is one of order 1
first_order : (d n : ℕ) (S A : Tree (suc d)) (b : Bool) (w : List Bool) {l m : ℕ} → Chosen n l (sides d S) b → (a : TightLeaf (suc d) n S A (b ∷ w))
    → TightSlot n (total d (S b)) m → a.last ≤ m → NoRegret 1 (suc d) n S A (b ∷ w)
unfolding NoRegret OutTree
first_order d n S A b w {l} {m} c a T h =
    record { slot = l; chosen = c; inner = record { slot = m; last = a.last; tight = T; out = a.out.0; within = h }; kept = a.out.1 }

pub first_bit : (ok : Grades) (d n L : ℕ) (S A B : Tree (suc d)) (w v : List Bool) → Only ok (suc d) n S → TightSlot n (whole (sides d S)) L
    → NoRegret 0 (suc d) n S A w
    → NoRegret 1 (suc d) n S B v → ¬ NoRegret 1 (suc d) n S A w → Behind 0 w v ⊎ Trap ok 0 (suc d) n L A B w v
unfolding NoRegret OutTree total starts
first_bit ok d n L S A B [] v o T a g nt = absurd a.out
first_bit ok d n L S A B (x ∷ w) [] o T a g nt = absurd g
-- no tight job is on the 0-side: the job is one of order 1
first_bit ok d n L S A B (false ∷ w) (true ∷ v) o T a g nt =
    absurd
    (
    omega (
      arith,
      g.chosen.pick,
      fall_in g.slot (total_out d n a.last (S false) (A false) w a.out.0) (omega (arith, a.within, tight_unique a.tight g.chosen.tight)),
    )
    )
first_bit ok d n L S A B (true ∷ w) (true ∷ v) o T a g nt =
    absurd (nt (first_order d n S A true w g.chosen a (chosen_one g.chosen) (omega (arith, a.within, tight_unique a.tight g.chosen.tight))))
-- the job goes on with 1
first_bit ok d n L S A B (true ∷ w) (false ∷ v) o T a g nt = inl (record { u = []; bits = refl; less = omega arith })
-- the job goes on with 0
first_bit ok d n L S A B (false ∷ w) (false ∷ v) o T a g nt =
    let r = g.inner in
    ⊎_elim
    {C = Behind 0 (false ∷ w) (false ∷ v) ⊎ Trap ok 0 (suc d) n L A B (false ∷ w) (false ∷ v)}
    (λ (h : a.last ≤ r.slot). absurd (nt (first_order d n S A false w g.chosen a r.tight h)))
    (λ (h : r.slot < a.last). inr (zero_zero ok d n L S A B w v o T g a h))
    (cmp a.last r.slot)

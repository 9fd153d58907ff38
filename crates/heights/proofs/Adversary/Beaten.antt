-- Whoever takes a job of order j that is none of order j + 1 is beaten: there are arrivals with allowed grades, and a start u of j bits, such that every run
-- of order j that goes on from there has fewer jobs of u0 than every run of order j + 1 that takes a job of order j + 1 instead.
use mathlib.Core.Path.{◌≡◌, sym, subst}
use mathlib.Core.Bool.{Bool}
use mathlib.Core.Logic.{◌⊎◌, inl, inr, ⊎_elim}
use mathlib.Core.List.{List, [], ◌∷◌, ◌++◌}
use Prim.Native.Nat.{ℕ, zero, suc, ◌≤◌, ◌<◌}
use native.Mathlib.Omega.{arith}
use Rattle.heights.proofs.Heights.TightSlot.{TightSlot, tight_unique}
use Rattle.heights.proofs.Sides.Tight.{chosen_within}
use Rattle.heights.proofs.Sides.Ahead.{chosen_bit}
use Rattle.heights.proofs.Trees.Tree.{Tree, total}
use Rattle.heights.proofs.Trees.NoRegret.{Down, NoRegret, no_regret_tight}
use Rattle.heights.proofs.Trees.Run.{run_empty}
use Rattle.heights.proofs.Trees.Flatten.{zero_bit}
use Rattle.heights.proofs.Items.Item.{Each}
use Rattle.heights.proofs.Items.Tree.{slots}
use Rattle.heights.proofs.Adversary.Allowed.{Grades, beyond, AllFit, Only}
use Rattle.heights.proofs.Adversary.Trap.{Beaten, Trap, Behind}
use Rattle.heights.proofs.Adversary.FirstBit.{first_bit}
use Rattle.heights.proofs.Adversary.Lifted.{lifted_trap, lifted_behind}

-- by recursion on the bits: w is behind, or there is a trap
trapped : (ok : Grades) (j d n L : ℕ) (S A B : Tree d) (w v : List Bool) → j < d → Only ok d n S → TightSlot n (total d S) L → NoRegret j d n S A w
    → NoRegret (suc j) d n S B v
    → ¬ NoRegret (suc j) d n S A w → Behind j w v ⊎ Trap ok j d n L A B w v
unfolding NoRegret total Only
trapped ok zero zero n L S A B w v h o T g f nt = absurd (omega arith)
trapped ok zero (suc d) n L S A B w v h o T g f nt = first_bit ok d n L S A B w v o T g f nt
trapped ok (suc j) zero n L S A B w v h o T g f nt = absurd (omega arith)
trapped ok (suc j) (suc d) n L S A B [] v h o T g f nt = absurd g
trapped ok (suc j) (suc d) n L S A B (x ∷ w) [] h o T g f nt = absurd f
trapped ok (suc j) (suc d) n L S A B (x ∷ w) (y ∷ v) h o T g f nt =
    go (chosen_bit x y g.chosen f.chosen) f
    (λ f'.
    let r = no_regret_tight j d n (S x) (A x) w g.inner in
    trapped (beyond x ok) j d n r.slot (S x) (A x) (B x) w v (omega arith) (o x) r.tight g.inner f'
    (λ z. nt record { slot = g.slot; chosen = g.chosen; inner = z; kept = g.kept }))
  where
    go : {y : Bool} → x ≡ y → Down d n S B y (NoRegret (suc j) d n (S y) (B y) v)
        → (NoRegret (suc j) d n (S x) (B x) v → Behind j w v ⊎ Trap (beyond x ok) j d n (no_regret_tight j d n (S x) (A x) w g.inner).slot (A x) (B x) w v)
        → Behind (suc j) (x ∷ w) (y ∷ v) ⊎ Trap ok (suc j) (suc d) n L A B (x ∷ w) (y ∷ v)
    go e f ih =
        let f' = subst (λ y. Down d n S B y (NoRegret (suc j) d n (S y) (B y) v)) (sym e) f in
        let r = no_regret_tight j d n (S x) (A x) w g.inner in
        let le : r.slot ≤ L = omega (arith, chosen_within x g.chosen r.tight, tight_unique T g.chosen.tight) in
        subst (λ y. Behind (suc j) (x ∷ w) (y ∷ v) ⊎ Trap ok (suc j) (suc d) n L A B (x ∷ w) (y ∷ v)) e
        (
        ⊎_elim
        {C = Behind (suc j) (x ∷ w) (x ∷ v) ⊎ Trap ok (suc j) (suc d) n L A B (x ∷ w) (x ∷ v)}
        (λ t. inl (lifted_behind j x w v t))
        (λ t. inr (lifted_trap ok j d n L r.slot x S A B w v T le t g f'))
        (ih f'.inner)
        )

pub beaten : (ok : Grades) (j d n : ℕ) (S A B : Tree d) (w v : List Bool) → j < d → Only ok d n S → NoRegret j d n S A w → NoRegret (suc j) d n S B v
    → ¬ NoRegret (suc j) d n S A w → Beaten ok j d n A B w v
unfolding Each AllFit slots
beaten ok j d n S A B w v h o g f nt =
    let r = no_regret_tight j d n S A w g in
    go (trapped ok j d n r.slot S A B w v h o r.tight g f nt)
  where
    go : {L : ℕ} → Behind j w v ⊎ Trap ok j d n L A B w v → Beaten ok j d n A B w v
    go (inl t) =
        record {
          u = t.u;
          bits = t.bits;
          by = record { first = []; first_fit = tt; later = []; later_fit = tt };
          wins = λ c e p q. omega (arith, t.less, run_empty p (t.u ++ zero_bit), run_empty q (t.u ++ zero_bit));
        }
    go (inr t) = t.answer

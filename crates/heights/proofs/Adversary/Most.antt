-- How many 0-jobs a run of order 0 can take at most, where the arrivals go to the 0-side and the tight slot is pinned at l.
use mathlib.Core.Path.{◌≡◌, sym}
use mathlib.Core.Bool.{Bool, true, false}
use mathlib.Core.List.{List, [], ◌∷◌}
use Prim.Native.Nat.{ℕ, zero, suc, ◌+◌, ◌≤◌}
use native.Mathlib.Omega.{arith}
use Rattle.heights.proofs.Heights.Removal.{TightOut}
use Rattle.heights.proofs.Sides.Board.{whole}
use Rattle.heights.proofs.Trees.Tree.{Tree, total, sides, OutTree, total_same, total_out}
use Rattle.heights.proofs.Trees.NoRegret.{TightLeaf, NoRegret, no_regret_whole}
use Rattle.heights.proofs.Trees.Run.{starts, Count, Step, rest, take, Run, stop, serve}
use Rattle.heights.proofs.Trees.Flatten.{zero_bit}
use Rattle.heights.proofs.Items.Item.{part}
use Rattle.heights.proofs.Items.Tree.{slots}
use Rattle.heights.proofs.Items.Lift.{arrive, arrive_here, arrive_whole}
use Rattle.heights.proofs.Adversary.Arrivals.{arrival, arrival_past, feed, lift_all}
use Rattle.heights.proofs.Adversary.Pinned.{Pinned, stuffed_some, pinned_le, pinned_step}
use Rattle.heights.proofs.Adversary.Bounds.{Shrinks, AtMost, most_step, shrink_out, shrink_none}

-- the tight slot stays pinned
pub next_pinned : (d m t l : ℕ) (g : List Bool) (X T : Tree (suc d)) → m ≤ l → Pinned t l l (whole (sides d X))
    → TightOut t (whole (sides d X)) (whole (sides d T)) → suc t ≤ l
    → Pinned (suc t) l l (whole (sides d (arrive d false T (arrival m (suc t) g))))
next_pinned d m t l g X T ml N o h =
    let F = arrival m (suc t) g in
    pinned_step (part F) (whole (sides d (arrive d false T F))) N h o (arrival_past m (suc t) g (suc l) (omega arith)) (arrive_whole d false T F)

pub pinned_some : (d t l L : ℕ) (X : Tree (suc d)) → Pinned t l L (whole (sides d X)) → t ≤ l → (total (suc d) X).at t ≡ 0 → ⊥
unfolding total
pinned_some d t l L X N h e = omega (arith, stuffed_some N.stuffed h)

-- what a step of order 0 does to the 0-side
tight_shrinks : (d m l t : ℕ) (g : List Bool) (X T : Tree (suc d)) (w : List Bool) → m ≤ l → t ≤ l → Pinned t l l (whole (sides d X))
    → TightLeaf (suc d) t X T w
    → Shrinks m l t (starts zero_bit w) (total d (X false)) (total d (arrive d false T (arrival m (suc t) g) false))
unfolding OutTree total starts
tight_shrinks d m l t g X T [] ml tl N x = absurd x.out
tight_shrinks d m l t g X T (false ∷ w) ml tl N x =
    let F = arrival m (suc t) g in
    let o = total_out d t x.last (X false) (T false) w x.out.0 in
    shrink_out g (total d (arrive d false T F false)) ml tl o
    (sym (o.rest.high (suc l) (omega arith) (omega (arith, x.within, pinned_le N tl x.tight)))) (arrive_here d false T F)
tight_shrinks d m l t g X T (true ∷ w) ml tl N x =
    let F = arrival m (suc t) g in
    shrink_none g (total d (arrive d false T F false)) ml tl (total_same d (suc t) (X false) (T false) x.out.1) (arrive_here d false T F)

step_shrinks : (d m l t : ℕ) (g : List Bool) (X T : Tree (suc d)) (a : Count) → m ≤ l → t ≤ l → Pinned t l l (whole (sides d X))
    → Step 0 (suc d) t X T a
    → Shrinks m l t (a zero_bit) (total d (X false)) (total d (arrive d false T (arrival m (suc t) g) false)) × TightOut t (whole (sides d X)) (whole (sides d T))
unfolding NoRegret
step_shrinks d m l t g X T a ml tl N (rest z k) = absurd (pinned_some d t l l X N tl z)
step_shrinks d m l t g X T a ml tl N (take w x) = (tight_shrinks d m l t g X T w ml tl N x, no_regret_whole 0 d t X T w x)

pub most : (d m l k t : ℕ) (g : List Bool) (X : Tree (suc d)) (c : Count) → m ≤ l → t + k ≤ suc l → (t ≤ l → Pinned t l l (whole (sides d X)))
    → Run 0 (suc d) t X (slots (suc d) (lift_all false (feed m t k g))) c → AtMost m l t (c zero_bit) (total d (X false))
unfolding slots lift_all feed
most d m l zero t g X c ml h N (stop e) =
    let z = total d (X false) in
    record {
      early = λ i. omega (arith, e zero_bit, z.anti (suc m) (suc l) (omega arith));
      late = λ i. omega (arith, e zero_bit, z.anti t (suc l) (omega arith));
    }
most d m l (suc k) t g X c ml h N (serve T a e s r q) =
    let M = N (omega arith) in
    let f = step_shrinks d m l t g X T a ml (omega arith) M s in
    most_step (e zero_bit) (c zero_bit) f.0
    (most d m l k (suc t) g (arrive d false T (arrival m (suc t) g)) e ml (omega arith) (λ i. next_pinned d m t l g X T ml M f.1 i) r) (q zero_bit)

-- A run of order 1 takes a 0-job in each slot before E, where the arrivals go to the 0-side and the tight slot is pinned at l.
use mathlib.Core.Path.{◌≡◌, refl}
use mathlib.Core.Bool.{Bool, true, false}
use mathlib.Core.List.{List, [], ◌∷◌}
use Prim.Native.Nat.{ℕ, zero, suc, ◌+◌, ◌≤◌, ◌<◌}
use native.Mathlib.Omega.{arith}
use Rattle.heights.proofs.Heights.Removal.{TightOut}
use Rattle.heights.proofs.Sides.Board.{whole}
use Rattle.heights.proofs.Sides.Tight.{chosen_within}
use Rattle.heights.proofs.Trees.Tree.{Tree, total, sides, total_out}
use Rattle.heights.proofs.Trees.NoRegret.{NoRegret, no_regret_whole}
use Rattle.heights.proofs.Trees.Run.{starts, Count, Step, rest, take, Run, serve}
use Rattle.heights.proofs.Trees.Flatten.{zero_bit}
use Rattle.heights.proofs.Items.Tree.{slots}
use Rattle.heights.proofs.Items.Lift.{arrive, arrive_here}
use Rattle.heights.proofs.Adversary.Arrivals.{arrival, feed, lift_all}
use Rattle.heights.proofs.Adversary.Pinned.{Pinned, pinned_ge, pinned_le}
use Rattle.heights.proofs.Adversary.Bounds.{AtLeast, least_some, least_step}
use Rattle.heights.proofs.Adversary.Most.{next_pinned, pinned_some}

descend : (d m l E t : ℕ) (g : List Bool) (X T : Tree (suc d)) (w : List Bool) → m ≤ l → t < E → E ≤ suc l → Pinned t l l (whole (sides d X))
    → AtLeast m l E t (total d (X false)) → NoRegret 1 (suc d) t X T w
    → (starts zero_bit w ≡ 1) × AtLeast m l E (suc t) (total d (arrive d false T (arrival m (suc t) g) false))
unfolding NoRegret starts
descend d m l E t g X T [] ml tE El N I x = absurd x
descend d m l E t g X T (false ∷ w) ml tE El N I x =
    let r = x.inner in
    let F = arrival m (suc t) g in (
      refl,
      least_step g (total d (arrive d false T F false)) I ml tE El r.tight (total_out d t r.last (X false) (T false) w r.out) r.within
          (omega (arith, chosen_within false x.chosen r.tight, pinned_le N (omega arith) x.chosen.tight)) (arrive_here d false T F),
    )
descend d m l E t g X T (true ∷ w) ml tE El N I x =
    absurd
    (
    omega (
      arith,
      least_some I ml tE El,
      x.chosen.pick,
      (total d (X false)).anti (suc l) (suc x.slot) (omega (arith, pinned_ge N (omega arith) x.chosen.tight)),
    )
    )

step_least : (d m l E t : ℕ) (g : List Bool) (X T : Tree (suc d)) (a : Count) → m ≤ l → t < E → E ≤ suc l → Pinned t l l (whole (sides d X))
    → AtLeast m l E t (total d (X false))
    → Step 1 (suc d) t X T a
    → (a zero_bit ≡ 1) × AtLeast m l E (suc t) (total d (arrive d false T (arrival m (suc t) g) false)) × TightOut t (whole (sides d X)) (whole (sides d T))
step_least d m l E t g X T a ml tE El N I (rest z k) = absurd (pinned_some d t l l X N (omega arith) z)
step_least d m l E t g X T a ml tE El N I (take w x) =
    let r = descend d m l E t g X T w ml tE El N I x in
    (r.0, r.1, no_regret_whole 1 d t X T w x)

pub least : (d m l E k t : ℕ) (g : List Bool) (X : Tree (suc d)) (c : Count) → m ≤ l → E ≤ suc l → t + k ≡ E
    → (t ≤ l → Pinned t l l (whole (sides d X)))
    → AtLeast m l E t (total d (X false)) → Run 1 (suc d) t X (slots (suc d) (lift_all false (feed m t k g))) c → k ≤ c zero_bit
unfolding slots lift_all feed
least d m l E zero t g X c ml El h N I r = omega arith
least d m l E (suc k) t g X c ml El h N I (serve T a e s r q) =
    let M = N (omega arith) in
    let f = step_least d m l E t g X T a ml (omega arith) El M I s in
    omega (
      arith,
      q zero_bit,
      f.0,
      least d m l E k (suc t) g (arrive d false T (arrival m (suc t) g)) e ml El (omega arith) (λ i. next_pinned d m t l g X T ml M f.2 i) f.1 r,
    )

-- No schedule takes more jobs than a tight run: not along the whole future, and not along any beginning of it.
use mathlib.Core.Path.{◌≡◌}
use mathlib.Core.Logic.{⊎_elim}
use mathlib.Core.List.{List}
use Prim.Native.Nat.{ℕ, zero, suc, pred, ◌+◌, ◌≤◌, ◌<◌}
use native.Mathlib.Omega.{arith}
use lib.ListN.{take}
use Rattle.heights.proofs.Heights.Part.{Part, Same, Out, cmp, out_less, out_one}
use Rattle.heights.proofs.Heights.Reach.{Reach, reach_refl, reach_join, reach_same}
use Rattle.heights.proofs.Heights.Removal.{removal, less_past}
use Rattle.heights.proofs.Schedule.Run.{TightStep, AnyStep, stop, next, TightRun, Schedule, sum}

-- the tight run takes a job, the schedule none: the lead grows
lead_more : {n d p : ℕ} {A B C D : Part} → Reach n d A C → Out n p A B → Same (suc n) C D → Reach (suc n) (suc d) B D
lead_more {n} {d} {p} r a k =
    record { to = λ s h. let t = r.to s (omega arith) in (t.0, t.1, omega (arith, out_one a s h, k.is t.0 (omega arith))) }

-- the run's part is empty, the schedule takes a job: there was a lead, and it shrinks by one
lead_less : {n d q : ℕ} {A B C D : Part} → Reach n d A C → A.at n ≡ 0 → Out n q C D → (e : ℕ) × (d ≡ suc e) × Reach (suc n) e B D
lead_less {n} {d} {q} {A} {B} {C} {D} r z c = (pred d, lead (r.to n (omega arith)), record { to = go })
  where
    lead : (t : ℕ) × (n ≤ t) × (t + C.at t ≤ n + A.at n + d) → d ≡ suc (pred d)
    lead (t, h, e) = ⊎_elim (λ (i : t ≤ q). omega (arith, c.present, C.anti t q i)) (λ (i : q < t). omega (arith, c.date)) (cmp t q)

    go : (s : ℕ) → suc n ≤ s → (t : ℕ) × (s ≤ t) × (t + D.at t ≤ s + B.at s + pred d)
    go s h =
        let t = r.to n (omega arith) in
        let l = lead t in
        ⊎_elim
        {C = (t : ℕ) × (s ≤ t) × (t + D.at t ≤ s + B.at s + pred d)}
        (λ (i : s ≤ t.0). (t.0, i, omega (arith, out_less c t.0 (omega arith))))
        (λ (i : t.0 < s). (s, omega arith, omega (arith, less_past d s t.0 c t.1 i (omega arith))))
        (cmp s t.0)

step : {n d a c : ℕ} {A B C D : Part} (j k : ℕ) → Reach n d A C → TightStep n A B a → AnyStep n C D c → ((e : ℕ) → Reach (suc n) e B D → k ≤ j + e)
    → c + k ≤ a + j + d
step {d = d} j k r (TightStep.rest z p) (AnyStep.rest q) ih = omega (arith, ih d (reach_same r p q))
step {B = B} j k r (TightStep.rest z p) (AnyStep.take q y) ih = let e = lead_less {B = B} r z y in omega (arith, ih e.0 e.2)
step {d = d} j k r (TightStep.take l p T x pl) (AnyStep.rest q) ih = omega (arith, ih (suc d) (lead_more r x q))
step {d = d} j k r (TightStep.take l p T x pl) (AnyStep.take q y) ih = omega (arith, ih d (removal r T x pl y))

-- from two parts, with a lead; in the first i slots
pub no_schedule_more_from : {n : ℕ} {A C : Part} {fs : List Part} {js ks : List ℕ} (d i : ℕ) → Reach n d A C → TightRun n A fs js → Schedule n C fs ks
    → sum (take i ks) ≤ sum (take i js) + d
no_schedule_more_from d zero r p q = omega arith
no_schedule_more_from d (suc i) r stop stop = omega arith
no_schedule_more_from {n} d (suc i) r (next {F = F} {ks = js} T a x p) (next {ks = ks} U c y q) =
    omega (arith, step (sum (take i js)) (sum (take i ks)) r x y (λ e z. no_schedule_more_from {n = suc n} e i (reach_join F z) p q))

-- from one part: in the first i slots, whatever i
pub no_schedule_more : {n : ℕ} {S : Part} {fs : List Part} {js ks : List ℕ} → TightRun n S fs js → Schedule n S fs ks → (i : ℕ)
    → sum (take i ks) ≤ sum (take i js)
no_schedule_more {n} {S} p q i = omega (arith, no_schedule_more_from 0 i (reach_refl n S) p q)

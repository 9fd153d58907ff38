-- What the arrivals up to slot m force on a part z, of which the jobs past l do not count: how many jobs can leave it at most, and how many
-- do leave it if a job tight in it leaves in each slot before E.
use mathlib.Core.Path.{◌≡◌}
use mathlib.Core.Bool.{Bool}
use mathlib.Core.Logic.{⊎_elim}
use mathlib.Core.List.{List}
use Prim.Native.Nat.{ℕ, suc, ◌+◌, ◌-◌, ◌≤◌, ◌<◌}
use native.Mathlib.Omega.{arith}
use Rattle.heights.proofs.Heights.Part.{Part, Same, Out, cmp, out_less, out_next, not_above}
use Rattle.heights.proofs.Heights.TightSlot.{TightSlot}
use Rattle.heights.proofs.Items.Item.{count}
use Rattle.heights.proofs.Adversary.Arrivals.{arrival, arrival_past, arrival_out, arrival_in}

-- k jobs leave z in slot t, and with what arrives y is left
pub record Shrinks (m l t k : ℕ) (z y : Part) : Type 0 where
  pub one : k ≤ 1
  pub outside : y.at (suc l) ≡ z.at (suc l)
  pub early : t ≤ m → y.at (suc m) ≤ z.at (suc m)
  pub late : m < t → y.at (suc t) + k ≤ z.at t

-- c jobs leave z from t on
pub record AtMost (m l t c : ℕ) (z : Part) : Type 0 where
  pub early : t ≤ suc m → c + z.at (suc l) ≤ (suc m - t) + z.at (suc m)
  pub late : m < t → c + z.at (suc l) ≤ z.at t

pub most_step : {m l t k : ℕ} {z y : Part} (b c : ℕ) → Shrinks m l t k z y → AtMost m l (suc t) b y → c ≡ k + b → AtMost m l t c z
most_step {m} {l} {t} {k} {z} {y} b c s I e =
    record { early = λ h. ⊎_elim before (λ (i : m < t). omega (arith, last i, z.anti (suc m) t i)) (cmp t m); late = last }
  where
    last : m < t → c + z.at (suc l) ≤ z.at t
    last i = omega (arith, I.late (omega arith), s.late i, s.outside)

    before : t ≤ m → c + z.at (suc l) ≤ (suc m - t) + z.at (suc m)
    before i = omega (arith, I.early (omega arith), s.early i, s.outside, s.one)

-- a job with last slot up to l leaves z, or none does
pub shrink_out : {m l t p : ℕ} {z x : Part} (g : List Bool) (y : Part) → m ≤ l → t ≤ l → Out t p z x → x.at (suc l) ≡ z.at (suc l)
    → ((s : ℕ) → y.at s ≡ x.at s + count (arrival m (suc t) g) s) → Shrinks m l t 1 z y
shrink_out {m} {l} {t} g y ml tl o b e =
    let f = arrival_past m (suc t) g in
    record {
      one = omega arith;
      outside = omega (arith, e (suc l), f (suc l) (omega arith));
      early = λ h. omega (arith, e (suc m), f (suc m) (omega arith), out_less o (suc m) (omega arith));
      late = λ h. omega (arith, e (suc t), f (suc t) (omega arith), out_next o);
    }

pub shrink_none : {m l t : ℕ} {z x : Part} (g : List Bool) (y : Part) → m ≤ l → t ≤ l → Same (suc t) z x
    → ((s : ℕ) → y.at s ≡ x.at s + count (arrival m (suc t) g) s)
    → Shrinks m l t 0 z y
shrink_none {m} {l} {t} {z} g y ml tl k e =
    let f = arrival_past m (suc t) g in
    record {
      one = omega arith;
      outside = omega (arith, e (suc l), f (suc l) (omega arith), k.is (suc l) (omega arith));
      early = λ h. omega (arith, e (suc m), f (suc m) (omega arith), k.is (suc m) (omega arith));
      late = λ h. omega (arith, e (suc t), f (suc t) (omega arith), k.is (suc t) (omega arith), z.anti t (suc t) (omega arith));
    }

-- from t on, a tight job of z can leave in each slot before E
pub record AtLeast (m l E t : ℕ) (z : Part) : Type 0 where
  pub wide : (s : ℕ) → t ≤ s → m < s → E + z.at (suc l) ≤ s + z.at s
  pub due : t ≤ m → z.at (suc t) < z.at t
  pub level : t ≤ m → suc m + z.at (suc m) ≤ E + z.at (suc l)

-- a job for slot t has arrived
due_now : (m t : ℕ) (g : List Bool) (Y Z : Part) → ((s : ℕ) → Z.at s ≡ Y.at s + count (arrival m t g) s) → t ≤ m → Z.at (suc t) < Z.at t
due_now m t g Y Z e h = omega (arith, e (suc t), e t, arrival_out m t g (suc t) (omega arith), arrival_in m t g h, Y.anti t (suc t) (omega arith))

-- a tight job has left S, whose tight slot is m
pub least_start : {n m l E p : ℕ} {S A : Part} (g : List Bool) (Z : Part) → TightSlot n S m → Out n p S A → p ≤ m → m ≤ l
    → suc m + S.at (suc m) ≡ E + S.at (suc l) → ((s : ℕ) → Z.at s ≡ A.at s + count (arrival m (suc n) g) s) → AtLeast m l E (suc n) Z
least_start {n} {m} {l} {E} {p} {S} {A} g Z T o pm ml f e =
    record {
      wide = λ s i j. omega (arith, end, left s i j, T.past s j);
      due = due_now m (suc n) g A Z e;
      level = λ i. omega (arith, end, left (suc m) (omega arith) (omega arith));
    }
  where
    -- past m nothing has changed
    left : (s : ℕ) → suc n ≤ s → m < s → Z.at s ≡ S.at s
    left s i j = omega (arith, e s, arrival_past m (suc n) g s j, o.rest.high s i (omega arith))

    end : Z.at (suc l) ≡ S.at (suc l)
    end = left (suc l) (omega (arith, T.date)) (omega arith)

pub least_some : {m l E t : ℕ} {z : Part} → AtLeast m l E t z → m ≤ l → t < E → E ≤ suc l → z.at (suc l) < z.at t
least_some {m} {l} {E} {t} {z} I ml tE El =
    ⊎_elim
    (λ (i : t ≤ m). omega (arith, I.due i, z.anti (suc t) (suc l) (omega arith)))
    (λ (i : m < t). omega (arith, I.wide t (omega arith) i))
    (cmp t m)

pub least_step : {m l E t r q : ℕ} {z y : Part} (g : List Bool) (Z : Part) → AtLeast m l E t z → m ≤ l → t < E → E ≤ suc l → TightSlot t z r
    → Out t q z y → q ≤ r → r ≤ l
    → ((s : ℕ) → Z.at s ≡ y.at s + count (arrival m (suc t) g) s) → AtLeast m l E (suc t) Z
least_step {m} {l} {E} {t} {r} {q} {z} {y} g Z I ml tE El T o qr rl e =
    record {
      wide = λ s h k. ⊎_elim (λ (i : t ≤ m). early i s h k) (λ (i : m < t). late i s h k) (cmp t m);
      due = due_now m (suc t) g y Z e;
      level =
          λ h.
          let rm = below (omega arith) in
          omega (arith, I.level (omega arith), same, e (suc m), past (suc m) (omega arith), o.rest.high (suc m) (omega arith) (omega arith));
    }
  where
    past : (s : ℕ) → m < s → count (arrival m (suc t) g) s ≡ 0
    past = arrival_past m (suc t) g

    same : Z.at (suc l) ≡ z.at (suc l)
    same = omega (arith, e (suc l), past (suc l) (omega arith), o.rest.high (suc l) (omega arith) (omega arith))

    below : t ≤ m → r ≤ m
    below i =
        let f : z.at (suc m) < z.at t = omega (arith, I.due i, z.anti (suc t) (suc m) (omega arith)) in
        not_above r m (λ k. omega (arith, T.upto (suc m) (omega arith) k f, I.level i, I.wide (suc r) (omega arith) (omega arith)))

    early : t ≤ m → (s : ℕ) → suc t ≤ s → m < s → E + Z.at (suc l) ≤ s + Z.at s
    early i s h k = omega (arith, same, e s, past s k, o.rest.high s h (omega (arith, below i)), I.wide s (omega arith) k)

    late : m < t → (s : ℕ) → suc t ≤ s → m < s → E + Z.at (suc l) ≤ s + Z.at s
    late i s h k =
        ⊎_elim
        (λ (j : s ≤ q).
        ⊎_elim
        (λ (f : z.at t ≤ z.at s). omega (arith, same, e s, past s k, o.rest.low s h j, I.wide t (omega arith) i))
        (λ (f : z.at s < z.at t).
        omega (arith, same, e s, past s k, o.rest.low s h j, T.upto s (omega arith) (omega arith) f, I.wide (suc r) (omega arith) (omega arith)))
        (cmp (z.at t) (z.at s)))
        (λ (j : q < s). omega (arith, same, e s, past s k, o.rest.high s h j, I.wide s (omega arith) k))
        (cmp s q)

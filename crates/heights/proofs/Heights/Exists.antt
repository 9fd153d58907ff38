-- A part with a job in date has a tight slot, and an earliest last slot; and a job that is present can be taken out.
use mathlib.Core.Path.{◌≡◌}
use mathlib.Core.Logic.{◌⊎◌, inl, inr, ⊎_elim}
use Prim.Native.Nat.{ℕ, zero, suc, ◌+◌, ◌-◌, ◌≤◌, ◌<◌, min}
use native.Mathlib.Omega.{arith}
use Rattle.heights.proofs.Heights.Part.{Part, Out, cmp, fallen, not_above}
use Rattle.heights.proofs.Heights.TightSlot.{TightSlot}

-- what holds of a slot with a job in date, if it holds of the next where one is in date there
from_end : (A : Part) (X : ℕ → Type 0) → ((n : ℕ) → 0 < A.at n → (0 < A.at (suc n) → X (suc n)) → X n) → (n : ℕ) → 0 < A.at n → X n
from_end A X f n h = go A.end n (omega arith) h
  where
    go : (k n : ℕ) → A.end ≤ k + n → 0 < A.at n → X n
    go zero n e h = absurd (omega (arith, A.anti A.end n (omega arith), A.none))
    go (suc k) n e h = f n h (go k (suc n) (omega arith))

tight_here : (A : Part) (n : ℕ) → 0 < A.at n → (0 < A.at (suc n) → (l : ℕ) × TightSlot (suc n) A l) → (l : ℕ) × TightSlot n A l
tight_here A n h r = pick (cmp (A.at n) (A.at (suc n))) (cmp 1 (A.at (suc n))) r
  where
    later : (l : ℕ) → TightSlot (suc n) A l → (A.at n ≤ A.at (suc n)) ⊎ (l + A.at (suc l) < n + A.at (suc n)) → TightSlot n A l
    later l T c =
        record {
          date = omega (arith, T.date);
          present = T.present;
          past = T.past;
          upto =
              λ s d e f.
              ⊎_elim
              (λ (g : A.at (suc n) ≤ A.at s). ⊎_elim (λ a. absurd (omega arith)) (λ b. omega (arith, fallen A n s f)) c)
              (λ g. T.upto s (fallen A n s f) e g)
              (cmp (A.at (suc n)) (A.at s));
        }

    now : A.at (suc n) < A.at n → ((s : ℕ) → n < s → suc n + A.at (suc n) ≤ s + A.at s) → TightSlot n A n
    now h f = record { date = omega arith; present = h; past = f; upto = λ s d e g. absurd (omega (arith, fallen A n s g)) }

    first : (l : ℕ) → TightSlot (suc n) A l → n + A.at (suc n) ≤ l + A.at (suc l) → (s : ℕ) → n < s → suc n + A.at (suc n) ≤ s + A.at s
    first l T c s h =
        ⊎_elim
        (λ (k : s ≤ l). ⊎_elim (λ (g : A.at (suc n) ≤ A.at s). omega arith) (λ g. omega (arith, T.upto s h k g)) (cmp (A.at (suc n)) (A.at s)))
        (λ (k : l < s). omega (arith, T.past s k))
        (cmp s l)

    pick : (A.at n ≤ A.at (suc n)) ⊎ (A.at (suc n) < A.at n) → (1 ≤ A.at (suc n)) ⊎ (A.at (suc n) < 1)
        → (0 < A.at (suc n) → (l : ℕ) × TightSlot (suc n) A l)
        → (l : ℕ) × TightSlot n A l
    pick (inl a) b r = let t = r (omega arith) in (t.0, later t.0 t.1 (inl a))
    pick (inr a) (inr b) r = (n, now a (λ s h. omega arith))
    pick (inr a) (inl b) r =
        let t = r b in
        ⊎_elim
        {C = (l : ℕ) × TightSlot n A l}
        (λ (c : n + A.at (suc n) ≤ t.0 + A.at (suc t.0)). (n, now a (first t.0 t.1 c)))
        (λ c. (t.0, later t.0 t.1 (inr c)))
        (cmp (n + A.at (suc n)) (t.0 + A.at (suc t.0)))

-- the tight slot exists
pub tight_slot : (n : ℕ) (A : Part) → 0 < A.at n → (l : ℕ) × TightSlot n A l
tight_slot n A h = from_end A (λ n. (l : ℕ) × TightSlot n A l) (tight_here A) n h

-- e is the earliest last slot in date
pub record EarliestSlot (n : ℕ) (A : Part) (e : ℕ) : Type 0 where
  pub date : n ≤ e
  pub present : A.at (suc e) < A.at e
  pub same : (s : ℕ) → n ≤ s → s ≤ e → A.at s ≡ A.at n

earliest_here : (A : Part) (n : ℕ) → 0 < A.at n → (0 < A.at (suc n) → (e : ℕ) × EarliestSlot (suc n) A e) → (e : ℕ) × EarliestSlot n A e
earliest_here A n h r = pick (cmp (A.at n) (A.at (suc n))) r
  where
    pick : (A.at n ≤ A.at (suc n)) ⊎ (A.at (suc n) < A.at n) → (0 < A.at (suc n) → (l : ℕ) × EarliestSlot (suc n) A l)
        → (l : ℕ) × EarliestSlot n A l
    pick (inr a) r = (n, record { date = omega arith; present = a; same = λ s d f. omega (arith, A.anti n s d, A.anti s n f) })
    pick (inl a) r =
        let t = r (omega arith) in
        let F = t.1 in (
          t.0,
          record {
            date = omega (arith, F.date);
            present = F.present;
            same =
                λ s d f.
                ⊎_elim
                (λ (g : suc n ≤ s). omega (arith, F.same s g f, A.anti n (suc n) (omega arith)))
                (λ (g : s < suc n). omega (arith, A.anti n s d, A.anti s n (omega arith)))
                (cmp (suc n) s);
          },
        )

pub earliest : (n : ℕ) (A : Part) → 0 < A.at n → (e : ℕ) × EarliestSlot n A e
earliest n A h = from_end A (λ n. (e : ℕ) × EarliestSlot n A e) (earliest_here A) n h

abbrev less_one : ℕ → Part → ℕ → ℕ
less_one p A s = A.at s - min 1 (suc p - s)

less_anti : (p : ℕ) (A : Part) → A.at (suc p) < A.at p → (s u : ℕ) → s ≤ u → less_one p A u ≤ less_one p A s
less_anti p A t s u h =
    ⊎_elim
    (λ (k : s ≤ p). ⊎_elim (λ (j : u ≤ p). omega (arith, A.anti s u h)) (λ (j : p < u). omega (arith, A.anti s p k, A.anti (suc p) u j)) (cmp u p))
    (λ (k : p < s). omega (arith, A.anti s u h))
    (cmp s p)

pub take_out : (n p : ℕ) (A : Part) → n ≤ p → A.at (suc p) < A.at p → (B : Part) × Out n p A B
take_out n p A d t = (
  record { at = less_one p A; anti = less_anti p A t; end = A.end; none = omega (arith, A.none) },
  record { date = d; present = t; rest = record { low = λ s h k. omega (arith, A.anti s p k); high = λ s h k. omega arith } },
)

pub earliest_le : {n e : ℕ} {A : Part} (l : ℕ) → EarliestSlot n A e → A.at (suc l) < A.at n → e ≤ l
earliest_le {n} {e} {A} l F h = not_above e l (λ i. omega (arith, F.same (suc l) (omega (arith, fallen A n (suc l) h)) i))

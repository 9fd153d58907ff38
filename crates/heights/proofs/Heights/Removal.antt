-- The removal law: where A reaches C, a tight job leaves A and any job leaves C, what is left of A reaches what is left of C.
-- Its converse: a job whose leaving leaves as much as a tight job's is tight.
use mathlib.Core.Path.{◌≡◌}
use mathlib.Core.Logic.{⊎_elim}
use Prim.Native.Nat.{ℕ, suc, ◌+◌, ◌≤◌, ◌<◌}
use native.Mathlib.Omega.{arith}
use Rattle.heights.proofs.Heights.Part.{Part, Out, cmp, out_less, not_above}
use Rattle.heights.proofs.Heights.Reach.{Reach, Alike}
use Rattle.heights.proofs.Heights.TightSlot.{TightSlot, tight_fall}

-- after a job has left C, its count past u is less than the height at u allows; u may be n itself
pub less_past : {n q : ℕ} {C D : Part} (k s u : ℕ) → Out n q C D → n ≤ u → u < s → u + C.at u ≤ n + k → D.at s < k
less_past {n} {q} {C} k s u c h i e =
    ⊎_elim
    (λ (j : s ≤ q). omega (arith, c.rest.low s (omega arith) j, C.anti u s (omega arith)))
    (λ (j : q < s).
    ⊎_elim
    (λ (g : u ≤ q). omega (arith, c.rest.high s (omega arith) j, C.anti (suc q) s j, c.present, C.anti u q g))
    (λ (g : q < u). omega (arith, c.rest.high s (omega arith) j, C.anti u s (omega arith), c.date))
    (cmp u q))
    (cmp s q)

pub removal : {n d l p q : ℕ} {A B C D : Part} → Reach n d A C → TightSlot n A l → Out n p A B → p ≤ l → Out n q C D → Reach (suc n) d B D
removal {n} {d} {l} {p} {q} {A} {B} {C} {D} r T a pl c = record { to = go }
  where
    go : (s : ℕ) → suc n ≤ s → (t : ℕ) × (s ≤ t) × (t + D.at t ≤ s + B.at s + d)
    go s h = ⊎_elim (λ (k : s ≤ p). ⊎_elim (λ g. flat k g) (λ g. deep k g) (cmp (A.at n) (A.at s))) (λ (k : p < s). over k) (cmp s p)
      where
        over : p < s → (t : ℕ) × (s ≤ t) × (t + D.at t ≤ s + B.at s + d)
        over k = let t = r.to s (omega arith) in (t.0, t.1, omega (arith, a.rest.high s h k, out_less c t.0 (omega arith)))

        deep : s ≤ p → A.at s < A.at n → (t : ℕ) × (s ≤ t) × (t + D.at t ≤ s + B.at s + d)
        deep k g =
            let t = r.to (suc l) (omega (arith, T.date)) in
            (t.0, omega arith, omega (arith, a.rest.low s h k, out_less c t.0 (omega arith), T.upto s (omega arith) (omega arith) g))

        flat : s ≤ p → A.at n ≤ A.at s → (t : ℕ) × (s ≤ t) × (t + D.at t ≤ s + B.at s + d)
        flat k g =
            let t = r.to n (omega arith) in
            ⊎_elim
            {C = (t : ℕ) × (s ≤ t) × (t + D.at t ≤ s + B.at s + d)}
            (λ (j : s ≤ t.0). (t.0, j, omega (arith, a.rest.low s h k, out_less c t.0 (omega arith))))
            (λ (j : t.0 < s). (s, omega arith, omega (arith, a.rest.low s h k, less_past (A.at n + d) s t.0 c t.1 j (omega arith))))
            (cmp s t.0)

pub converse : {n l p q : ℕ} {A B D : Part} → TightSlot n A l → Out n p A B → p ≤ l → Out n q A D → Reach (suc n) 0 D B → q ≤ l
converse {n} {l} {p} {q} {A} {B} {D} T a pl c r = not_above q l (λ k. go k (r.to (suc l) (omega (arith, T.date))))
  where
    go : l < q → (t : ℕ) × (suc l ≤ t) × (t + B.at t ≤ suc l + D.at (suc l) + 0) → ⊥
    go k t = omega (arith, a.rest.high t.0 (omega (arith, T.date)) (omega arith), c.rest.low (suc l) (omega (arith, T.date)) k, T.past t.0 t.1)

-- a tight job leaves A in slot n, and B is left
pub record TightOut (n : ℕ) (A B : Part) : Type 0 where
  pub slot : ℕ
  pub last : ℕ
  pub tight : TightSlot n A slot
  pub out : Out n last A B
  pub within : last ≤ slot

pub tight_some : {n : ℕ} {A B : Part} → TightOut n A B → A.at n ≡ 0 → ⊥
tight_some t e = omega (arith, tight_fall t.tight)

-- a tight job leaves each of two parts that are alike
pub alike_out : {n : ℕ} {A B C D : Part} → Alike n A C → TightOut n A B → TightOut n C D → Alike (suc n) B D
alike_out l a c =
    record { to = removal l.to a.tight a.out a.within c.out; fro = removal l.fro c.tight c.out c.within a.out }

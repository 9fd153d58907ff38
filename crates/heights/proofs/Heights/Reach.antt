-- A reaches C from slot n with lead d: for every slot s from n on there is a slot t, no earlier, where the height of C is at most that of A at s plus d.
-- The height of A at s is s + A.at s. Reaching passes to later slots, to sums, and to parts that agree.
use mathlib.Core.Path.{◌≡◌}
use Prim.Native.Nat.{ℕ, suc, ◌+◌, ◌≤◌}
use native.Mathlib.Omega.{arith}
use Rattle.heights.proofs.Heights.Part.{Part, ◌⊕◌, Same}

pub record Reach (n d : ℕ) (A C : Part) : Type 0 where
  pub to : (s : ℕ) → n ≤ s → (t : ℕ) × (s ≤ t) × (t + C.at t ≤ s + A.at s + d)

pub reach_refl : (n : ℕ) (A : Part) → Reach n 0 A A
reach_refl n A = record { to = λ s h. (s, omega arith, omega arith) }

-- parts that agree reach each other
pub reach_is : {n : ℕ} {A C : Part} → Same n A C → Reach n 0 A C
reach_is e = record { to = λ s h. (s, omega arith, omega (arith, e.is s h)) }

pub reach_trans : {n d e : ℕ} {A B C : Part} → Reach n d A B → Reach n e B C → Reach n (d + e) A C
reach_trans r q =
    record {
      to = λ s h. let t = r.to s h in let u = q.to t.0 (omega arith) in (u.0, omega arith, omega arith);
    }

pub reach_later : {n d : ℕ} {A C : Part} (m : ℕ) → n ≤ m → Reach n d A C → Reach m d A C
reach_later m l r = record { to = λ s h. r.to s (omega arith) }

pub reach_join : {n d : ℕ} {A C : Part} (F : Part) → Reach n d A C → Reach n d (A ⊕ F) (C ⊕ F)
reach_join F r = record { to = λ s h. let t = r.to s h in (t.0, t.1, omega (arith, F.anti s t.0 t.1)) }

pub reach_sum : {n d e : ℕ} {A B C D : Part} → Reach n d A C → Reach n e B D → Reach n (d + e) (A ⊕ B) (C ⊕ D)
reach_sum {A = A} {B = B} {C = C} {D = D} r q =
    record {
      to =
          λ s h.
          let t = r.to s h in
          let u = q.to t.0 (omega arith) in
          (u.0, omega arith, omega (arith, C.anti t.0 u.0 u.1, B.anti s t.0 t.1));
    }

pub reach_same : {n d : ℕ} {A C B D : Part} → Reach n d A C → Same (suc n) A B → Same (suc n) C D → Reach (suc n) d B D
reach_same r k l = record { to = λ s h. let t = r.to s (omega arith) in (t.0, t.1, omega (arith, k.is s h, l.is t.0 (omega arith))) }

-- where A has no job in date, C has none
pub reach_none : {n : ℕ} {A C : Part} → Reach n 0 A C → A.at n ≡ 0 → C.at n ≡ 0
reach_none {n} {A} {C} r e = go (r.to n (omega arith))
  where
    go : (t : ℕ) × (n ≤ t) × (t + C.at t ≤ n + A.at n + 0) → C.at n ≡ 0
    go t = omega (arith, C.anti n t.0 t.1, C.anti t.0 n (omega arith))

pub reach_swap : {n d : ℕ} (A B C D : Part) → Reach n d (A ⊕ B) (C ⊕ D) → Reach n d (B ⊕ A) (D ⊕ C)
reach_swap A B C D r = record { to = λ s h. let t = r.to s h in (t.0, t.1, omega arith) }

-- each reaches the other, with no lead
pub record Alike (n : ℕ) (A B : Part) : Type 0 where
  pub to : Reach n 0 A B
  pub fro : Reach n 0 B A

pub alike_refl : (n : ℕ) (A : Part) → Alike n A A
alike_refl n A = record { to = reach_refl n A; fro = reach_refl n A }

pub alike_sym : {n : ℕ} {A B : Part} → Alike n A B → Alike n B A
alike_sym a = record { to = a.fro; fro = a.to }

pub alike_join : {n : ℕ} {A B : Part} (F : Part) → Alike n A B → Alike n (A ⊕ F) (B ⊕ F)
alike_join F a = record { to = reach_join F a.to; fro = reach_join F a.fro }

pub alike_sum : {n : ℕ} {A B C D : Part} → Alike n A C → Alike n B D → Alike n (A ⊕ B) (C ⊕ D)
alike_sum a b = record { to = reach_sum a.to b.to; fro = reach_sum a.fro b.fro }

pub alike_same : {n : ℕ} {A B C D : Part} → Alike n A C → Same (suc n) A B → Same (suc n) C D → Alike (suc n) B D
alike_same a k l = record { to = reach_same a.to k l; fro = reach_same a.fro l k }

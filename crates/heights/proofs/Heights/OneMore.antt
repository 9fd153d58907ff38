-- A part with one job more than another: what happens to the difference as time passes, jobs arrive and jobs leave.
use Prim.Native.Nat.{ℕ, suc, ◌≤◌}
use native.Mathlib.Omega.{arith}
use Rattle.heights.proofs.Heights.Part.{Part, ◌⊕◌, Same, OneMore, more_at, at_more, Out}

pub more_le : {n x : ℕ} {A C : Part} → OneMore n x A C → (s : ℕ) → n ≤ s → C.at s ≤ A.at s
more_le m s h = omega (arith, more_at m s h)

pub more_same : {n x : ℕ} {A B C D : Part} (t : ℕ) → n ≤ t → OneMore n x A C → Same t A B → Same t C D → OneMore t x B D
more_same t i m k l = at_more (λ s h. omega (arith, more_at m s (omega arith), k.is s h, l.is s h))

pub more_join : {n x : ℕ} {A C : Part} (F : Part) → OneMore n x A C → OneMore n x (A ⊕ F) (C ⊕ F)
more_join F m = at_more (λ s h. omega (arith, more_at m s h))

-- jobs with one last slot e leave both
pub more_out : {n x e : ℕ} {A B C D : Part} → OneMore n x A C → Out n e A B → Out n e C D → OneMore (suc n) x B D
more_out m a c = at_more (λ s h. omega (arith, more_at m s (omega arith), more_at a.rest s h, more_at c.rest s h))

-- the job that is more leaves: nothing is more
pub more_away : {n x : ℕ} {A B C : Part} → OneMore n x A C → Out n x A B → Same (suc n) B C
more_away m a = record { is = λ s h. omega (arith, more_at m s (omega arith), more_at a.rest s h) }

-- and it can leave, if it is in date
pub more_leaves : {n x : ℕ} {A C D : Part} → OneMore n x A C → n ≤ x → Same (suc n) C D → Out n x A D
more_leaves {n} {x} {A} {C} m d k =
    record {
      date = d;
      present = omega (arith, m.low x d (omega arith), m.high (suc x) (omega arith) (omega arith), C.anti x (suc x) (omega arith));
      rest = at_more (λ s i. omega (arith, more_at m s (omega arith), k.is s i));
    }

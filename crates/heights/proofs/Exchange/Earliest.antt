-- The earliest job of a part that has one job more than another.
use Prim.Native.Nat.{ℕ, suc, ◌≤◌}
use native.Mathlib.Omega.{arith}
use Rattle.heights.proofs.Heights.Part.{Part, OneMore, more_at}
use Rattle.heights.proofs.Heights.Exists.{EarliestSlot}

-- it is the other's, if that is no later
pub earliest_more : {n x e : ℕ} {A C : Part} → OneMore n x A C → EarliestSlot n C e → e ≤ x → EarliestSlot n A e
earliest_more {n} {x} {e} m f h =
    let d = f.date in
    record {
      date = d;
      present = omega (arith, f.present, more_at m e d, more_at m (suc e) (omega arith));
      same = λ s i j. omega (arith, f.same s i j, m.low s i (omega arith), m.low n (omega arith) (omega arith));
    }

-- or the one more, if that is earlier
pub earliest_one : {n x : ℕ} {A C : Part} → OneMore n x A C → n ≤ x → C.at n ≤ C.at x → EarliestSlot n A x
earliest_one {n} {x} {C = C} m d h =
    record {
      date = d;
      present = omega (arith, more_at m x d, more_at m (suc x) (omega arith), C.anti x (suc x) (omega arith));
      same = λ s i j. omega (arith, m.low s i j, m.low n (omega arith) d, C.anti n s i, C.anti s x j);
    }

-- A served slot in which both boards have a tight 0-job, and x is before the earliest 0-job e of P: Q takes x, P takes e, and e is the new x.
use mathlib.Core.Bool.{true, false}
use mathlib.Core.Logic.{◌⊎◌, inl, inr}
use Prim.Native.Nat.{ℕ, suc, ◌≤◌, ◌<◌}
use native.Mathlib.Omega.{arith}
use Rattle.heights.proofs.Heights.Part.{Same, Out, cmp, same_refl, same_sym}
use Rattle.heights.proofs.Heights.OneMore.{more_same, more_away}
use Rattle.heights.proofs.Heights.TightSlot.{TightSlot}
use Rattle.heights.proofs.Heights.Exists.{EarliestSlot}
use Rattle.heights.proofs.Sides.Board.{Sides, whole}
use Rattle.heights.proofs.Exchange.Condition.{Before, After, Redundant, Exchanged}
use Rattle.heights.proofs.Exchange.BothZero.{dip, lower}

pub x_moves : {n l e x y : ℕ} {P Q R S : Sides} → Exchanged n x y P Q → n ≤ x → TightSlot n (whole P) l → EarliestSlot n (P false) e → e ≤ l → x < e
    → Out n e (P false) (R false) → Same (suc n) (P true) (R true)
    → Out n x (Q false) (S false) → Same (suc n) (Q true) (S true) → Exchanged (suc n) e y R S
x_moves {n} {l} {e} {x} {y} {P} {Q} {R} {S} E nx T F el xe p kp q kq =
    record {
      x_more = more_same (suc n) (omega arith) p.rest (same_sym (more_away E.x_more q)) (same_refl (suc n) (R false));
      y_more = more_same (suc n) (omega arith) E.y_more kp kq;
      either = go (cmp e y) E.either;
    }
  where
    lo : y < e → Before (suc n) e y (R false) (S true)
    lo g =
        record {
          early = g;
          mark = e;
          mark_le = omega arith;
          zero_side = λ s h k j. absurd (omega arith);
          over = λ s h k f j. let t = lower e F p kq (omega arith) s h j (dip E nx T e el s h k j) in (t.0, t.1, t.2);
          under = λ s h k j. let t = lower e F p kq (omega arith) s h j (dip E nx T e el s h k j) in (t.0, t.1, t.3);
        }

    hi : e ≤ y → After n x y (P false) (Q true) → After (suc n) e y (R false) (S true)
    hi g H =
        record {
          late = g;
          redundant =
              λ s h k j.
              let t = H.redundant s (omega arith) (omega arith) j in
              (t.0, t.1, omega (arith, p.rest.high s h k, p.rest.high t.0 (omega arith) (omega arith), kq.is s h, kq.is t.0 (omega arith)));
        }

    go : (e ≤ y) ⊎ (y < e) → Redundant n x y (P false) (Q true) → Redundant (suc n) e y (R false) (S true)
    go (inr g) c = inl (lo g)
    go (inl g) (inr H) = inr (hi g H)
    go (inl g) (inl L) = absurd (omega (arith, L.early))

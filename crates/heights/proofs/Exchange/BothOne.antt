-- A served slot in which Q has no tight 0-job: then P has none either, and both take a 1-job, before both x and y.
use mathlib.Core.Path.{◌≡◌}
use mathlib.Core.Bool.{true, false}
use mathlib.Core.Logic.{inl, inr, ⊎_elim}
use Prim.Native.Nat.{ℕ, suc, ◌≤◌, ◌<◌}
use native.Mathlib.Omega.{arith}
use Rattle.heights.proofs.Heights.Part.{Same, Out, cmp, above, not_above}
use Rattle.heights.proofs.Heights.OneMore.{more_same, more_out}
use Rattle.heights.proofs.Heights.TightSlot.{TightSlot}
use Rattle.heights.proofs.Heights.Exists.{EarliestSlot, earliest, take_out}
use Rattle.heights.proofs.Heights.Removal.{removal}
use Rattle.heights.proofs.Sides.Board.{Sides, whole}
use Rattle.heights.proofs.Exchange.Condition.{Redundant, Exchanged, past_y, exchange_forth}
use Rattle.heights.proofs.Exchange.Later.{redundant_later}

-- Q has no tight 0-job. Then x and y are beyond its tight slot, and P has no tight 0-job either

pub x_beyond : {n m x y : ℕ} {P Q : Sides} → Exchanged n x y P Q → n ≤ x → TightSlot n (whole Q) m → (Q false).at (suc m) ≡ (Q false).at n → m < x
x_beyond {n} {m} {x} {y} {P} {Q} E nx U none =
    let d = U.date in
    above x m (λ h. omega (arith, E.x_more.low n (omega arith) nx, E.x_more.high (suc m) (omega arith) (omega arith), (P false).anti n (suc m) (omega arith)))

pub y_beyond : {n m x y : ℕ} {P Q : Sides} → Exchanged n x y P Q → n ≤ x → TightSlot n (whole Q) m → (Q false).at (suc m) ≡ (Q false).at n → m < y
y_beyond {n} {m} {x} {y} {P} {Q} E nx U none = above y m (λ h. go h E.either)
  where
    mx : m < x
    mx = x_beyond E nx U none

    go : y ≤ m → Redundant n x y (P false) (Q true) → ⊥
    go h (inr H) = omega (arith, H.late, mx)
    go h (inl L) =
        let a = mx in
        let d = U.date in
        let t = past_y L (suc m) (omega arith) (omega arith) a in
        omega (arith, U.past t.0 (omega arith), E.x_more.high t.0 (omega arith) t.1, E.x_more.low (suc m) (omega arith) a)

pub none_either : {n l m x y : ℕ} {P Q : Sides} → Exchanged n x y P Q → n ≤ x → TightSlot n (whole P) l → TightSlot n (whole Q) m
    → (Q false).at (suc m) ≡ (Q false).at n → (P false).at (suc l) ≡ (P false).at n
none_either {n} {l} {m} {x} {y} {P} {Q} E nx T U none =
    ⊎_elim
    (λ (h : (P false).at n ≤ (P false).at (suc l)). omega (arith, (P false).anti n (suc l) (omega (arith, T.date))))
    (λ (h : (P false).at (suc l) < (P false).at n). absurd (no h (earliest n (P false) (omega arith))))
    (cmp ((P false).at n) ((P false).at (suc l)))
  where
    no : (P false).at (suc l) < (P false).at n → (e : ℕ) × EarliestSlot n (P false) e → ⊥
    no h (e, F) =
        let d = U.date in
        let xm = x_beyond E nx U none in
        let ym = y_beyond E nx U none in
        let level : (P false).at (suc m) ≡ (P false).at n = omega (arith, E.x_more.low n (omega arith) nx, E.x_more.low (suc m) (omega arith) xm) in
        let me : m < e = above e m (λ i. omega (arith, F.present, F.same e F.date (omega arith), (P false).anti (suc e) (suc m) (omega arith))) in
        let el : e ≤ l = not_above e l (λ i. omega (arith, F.same (suc l) (omega (arith, T.date)) i)) in
        let a = take_out n e (whole P) F.date (omega (arith, F.present, (P true).anti e (suc e) (omega arith))) in
        let b = take_out n m (whole Q) d U.present in
        let t = (removal (exchange_forth E) T a.1 el b.1).to (suc m) (omega arith) in
        omega (
          arith,
          U.past t.0 t.1,
          b.1.rest.high t.0 (omega arith) t.1,
          a.1.rest.low (suc m) (omega arith) me,
          E.x_more.low (suc m) (omega arith) xm,
          E.y_more.low (suc m) (omega arith) ym,
        )

-- both take a 1-job up to the tight slot of Q
pub both_take_one : {n m e x y : ℕ} {P Q R S : Sides} → Exchanged n x y P Q → n ≤ x → TightSlot n (whole Q) m → (Q false).at (suc m) ≡ (Q false).at n
    → e ≤ m → Out n e (P true) (R true) → Same (suc n) (P false) (R false)
    → Out n e (Q true) (S true) → Same (suc n) (Q false) (S false) → Exchanged (suc n) x y R S
both_take_one {n} {m} {e} {x} {y} {P} {Q} {R} {S} E nx U none em p kp q kq =
    let xm = x_beyond E nx U none in
    let ym = y_beyond E nx U none in
    record {
      x_more = more_same (suc n) (omega arith) E.x_more kq kp;
      y_more = more_out E.y_more p q;
      either = redundant_later e (omega arith) (omega arith) E.either kp (λ s h j. q.rest.high s h j);
    }

-- A fresh exchange: from S one board takes out the 0-job x, tight in S and on its side, the other the tight 1-job y.
use mathlib.Core.Path.{◌≡◌}
use mathlib.Core.Bool.{true, false}
use mathlib.Core.Logic.{◌⊎◌, inl, inr}
use Prim.Native.Nat.{ℕ, suc, ◌+◌, ◌≤◌, ◌<◌}
use native.Mathlib.Omega.{arith}
use Rattle.heights.proofs.Heights.Part.{Same, Out, cmp, fall_in, not_above, same_refl}
use Rattle.heights.proofs.Heights.OneMore.{more_same}
use Rattle.heights.proofs.Heights.TightSlot.{TightSlot}
use Rattle.heights.proofs.Heights.Exists.{EarliestSlot, earliest}
use Rattle.heights.proofs.Sides.Board.{Sides, whole}
use Rattle.heights.proofs.Exchange.Condition.{Before, After, Redundant, Exchanged}

pub exchange_fresh : {n l m x y : ℕ} {P Q : Sides} (S : Sides) → TightSlot n (whole S) l → TightSlot n (S false) m → Out n x (S false) (P false)
    → x ≤ m → x ≤ l → Same (suc n) (S true) (P true)
    → Out n y (S true) (Q true) → y ≤ l → Same (suc n) (S false) (Q false) → Exchanged (suc n) x y P Q
exchange_fresh {n} {l} {m} {x} {y} {P} {Q} S T U a xm xl ka b yl kb =
    record {
      x_more = more_same (suc n) (omega arith) a.rest kb (same_refl (suc n) (P false));
      y_more = more_same (suc n) (omega arith) b.rest ka (same_refl (suc n) (Q true));
      either = go (cmp x y);
    }
  where
    first : (e : ℕ) × EarliestSlot n (S false) e
    first = earliest n (S false) (omega (arith, fall_in x a (omega arith)))

    -- past l nothing has left
    beyond : (P false).at (suc l) + (Q true).at (suc l) ≡ (whole S).at (suc l)
    beyond = omega (arith, a.rest.high (suc l) (omega (arith, T.date)) (omega arith), b.rest.high (suc l) (omega (arith, T.date)) (omega arith))

    -- so past l is lower than where it was higher than there by one
    low : (s : ℕ) → suc n ≤ s → s ≤ l → (whole S).at s < (whole S).at n → (h : ℕ) → (whole S).at s ≤ suc h
        → suc l + (P false).at (suc l) + (Q true).at (suc l) ≤ s + h
    low s h j f k i = omega (arith, beyond, T.upto s (omega arith) j f)

    hi : x ≤ y → After (suc n) x y (P false) (Q true)
    hi g =
        record {
          late = g;
          redundant =
              λ s h k j. (
                suc l,
                omega arith,
                omega (
                  arith,
                  low s h (omega arith) (omega (arith, fall_in x a (omega arith), (S false).anti (suc x) s k, (S true).anti n s (omega arith)))
                      ((P false).at s + (Q true).at s) (omega (arith, a.rest.high s h k, b.rest.low s h j)),
                ),
              );
        }

    lo : y < x → Before (suc n) x y (P false) (Q true)
    lo g =
        let e = first.0 in
        let F = first.1 in
        let ex : e ≤ x = not_above e x (λ h. omega (arith, F.same (suc x) (omega (arith, a.date)) h, fall_in x a (omega arith))) in
        let fall_e : (S false).at (suc e) < (S false).at n = omega (arith, F.present, F.same e F.date (omega arith)) in
        let all_low : (s : ℕ) → n ≤ s → y < s → (whole S).at s < (whole S).at n =
        λ s h k. omega (arith, fall_in y b (omega arith), (S true).anti (suc y) s k, (S false).anti n s h)
        in
        record {
          early = g;
          mark = e;
          mark_le = ex;
          zero_side =
              λ s h k j. (
                suc m,
                omega arith,
                omega (
                  arith,
                  a.rest.low s h j,
                  a.rest.high (suc m) (omega (arith, U.date)) (omega arith),
                  U.upto s (omega arith) (omega arith) (omega (arith, fall_e, (S false).anti (suc e) s k)),
                ),
              );
          over =
              λ s h k f j. (
                suc l,
                omega arith,
                omega (arith, low s h (omega arith) (all_low s (omega arith) k) ((P false).at s + (Q true).at s) (omega (arith, a.rest.low s h j, b.rest.high s h k))),
              );
          under =
              λ s h k j. (
                suc l,
                omega arith,
                omega (
                  arith,
                  low s h (omega arith) (all_low s (omega arith) k) ((P false).at e + (Q true).at s)
                      (omega (arith, a.rest.low e (omega arith) ex, F.same e F.date (omega arith), F.same s (omega arith) j, b.rest.high s h k)),
                ),
              );
        }

    go : (x ≤ y) ⊎ (y < x) → Redundant (suc n) x y (P false) (Q true)
    go (inl h) = inr (hi h)
    go (inr h) = inl (lo h)

-- A served slot in which Q has a tight 0-job and P has none: P takes a 1-job p, Q a 0-job. From then on P is ahead, side by side.
use mathlib.Core.Path.{◌≡◌}
use mathlib.Core.Bool.{true, false}
use mathlib.Core.Logic.{◌⊎◌, inl, inr, ⊎_elim}
use Prim.Native.Nat.{ℕ, suc, ◌+◌, ◌≤◌, ◌<◌}
use native.Mathlib.Omega.{arith}
use Rattle.heights.proofs.Heights.Part.{Part, Same, Out, cmp, above, not_above, same_sym, same_trans}
use Rattle.heights.proofs.Heights.OneMore.{more_away, more_leaves}
use Rattle.heights.proofs.Heights.Reach.{Reach, reach_refl, reach_is}
use Rattle.heights.proofs.Heights.TightSlot.{TightSlot}
use Rattle.heights.proofs.Heights.Exists.{EarliestSlot}
use Rattle.heights.proofs.Heights.Removal.{removal}
use Rattle.heights.proofs.Sides.Board.{Sides, whole, out_side}
use Rattle.heights.proofs.Sides.Tight.{other_tight}
use Rattle.heights.proofs.Exchange.Condition.{Redundant, Exchanged, past_y, exchange_back}

-- the 1-sides
pub ones_ahead : {n l p x y : ℕ} {P Q : Sides} {R S : Part} → Exchanged n x y P Q → n ≤ x → TightSlot n (whole P) l
    → (P false).at (suc l) ≡ (P false).at n → Out n p (P true) R → p ≤ l → Same (suc n) (Q true) S
    → Reach (suc n) 0 R S
ones_ahead {n} {l} {p} {x} {y} {P} {Q} {R} {S} E nx T none o pl kq = ⊎_elim here gone (cmp n y)
  where
    U : TightSlot n (P true) l
    U = other_tight false P T none

    -- y is in date: the removal law against y
    here : n ≤ y → Reach (suc n) 0 R S
    here h = removal (reach_refl n (P true)) U o pl (more_leaves E.y_more h kq)

    -- y has expired: X is overfull at n
    over : y < n → suc l + (P true).at (suc l) ≤ n + (P true).at n
    over h = go E.either
      where
        go : Redundant n x y (P false) (Q true) → suc l + (P true).at (suc l) ≤ n + (P true).at n
        go (inr H) = absurd (omega (arith, H.late))
        go (inl L) =
            let t = past_y L n (omega arith) h nx in
            let a = E.y_more.high n (omega arith) h in
            let b = E.y_more.high t.0 (omega arith) (omega arith) in
            ⊎_elim
            (λ (c : t.0 ≤ l). omega (arith, T.upto t.0 (omega arith) c (omega arith)))
            (λ (c : l < t.0). omega (arith, T.past t.0 c))
            (cmp t.0 l)

    gone : y < n → Reach (suc n) 0 R S
    gone h =
        record {
          to =
              λ s i.
              ⊎_elim
              {C = (t : ℕ) × (s ≤ t) × (t + S.at t ≤ s + R.at s + 0)}
              (low s i)
              (λ (j : p < s). (s, omega arith, omega (arith, same s i, o.rest.high s i j)))
              (cmp s p);
        }
      where
        same : (s : ℕ) → suc n ≤ s → (P true).at s ≡ S.at s
        same s i = omega (arith, E.y_more.high s (omega arith) (omega arith), kq.is s i)

        low : (s : ℕ) → suc n ≤ s → s ≤ p → (t : ℕ) × (s ≤ t) × (t + S.at t ≤ s + R.at s + 0)
        low s i j = (
          suc l,
          omega arith,
          ⊎_elim
              (λ (c : (P true).at n ≤ (P true).at s). omega (arith, same (suc l) (omega (arith, T.date)), o.rest.low s i j, over h))
              (λ (c : (P true).at s < (P true).at n).
              omega (arith, same (suc l) (omega (arith, T.date)), o.rest.low s i j, U.upto s (omega arith) (omega arith) c))
              (cmp ((P true).at n) ((P true).at s)),
        )

-- the 0-sides, where Q takes x
pub zeros_ahead_x : {n x y : ℕ} {P Q : Sides} {R S : Part} → Exchanged n x y P Q → Same (suc n) (P false) R → Out n x (Q false) S
    → Reach (suc n) 0 R S
zeros_ahead_x E k q = reach_is (same_trans (same_sym k) (same_sym (more_away E.x_more q)))

-- the 0-sides, where Q takes the earliest 0-job e of P. First y ≤ l, so y < x; then the mark is at e or before
pub zeros_ahead_e : {n l m e p x y : ℕ} {P Q : Sides} (R S : Sides) → Exchanged n x y P Q → TightSlot n (whole P) l
    → (P false).at (suc l) ≡ (P false).at n → Out n p (P true) (R true) → p ≤ l → Same (suc n) (P false) (R false)
    → TightSlot n (whole Q) m → EarliestSlot n (P false) e → e ≤ x → Out n e (Q false) (S false) → e ≤ m → Same (suc n) (Q true) (S true)
    → Reach (suc n) 0 (R false) (S false)
zeros_ahead_e {n} {l} {m} {e} {p} {x} {y} {P} {Q} R S E T none o pl kp U F ex q em kq =
    record { to = λ s h. go s h (cmp s e) (cmp s x) }
  where
    el : l < e
    el = above e l (λ h. omega (arith, F.present, F.same e F.date (omega arith), (P false).anti (suc e) (suc l) (omega arith)))

    yl : y ≤ l
    yl =
        let r = removal (exchange_back E) U (out_side false Q S q kq) em (out_side true P R o kp) in
        let t = r.to (suc l) (omega (arith, T.date)) in
        let d = T.date in
        let a = el in
        not_above y l (λ h. omega (
          arith,
          T.past t.0 t.1,
          kp.is t.0 (omega arith),
          o.rest.high t.0 (omega arith) (omega arith),
          q.rest.low (suc l) (omega arith) el,
          kq.is (suc l) (omega arith),
          E.x_more.low (suc l) (omega arith) (omega arith),
          E.y_more.low (suc l) (omega arith) h,
        ))

    -- x is redundant among the 0-jobs of P past e
    red : Redundant n x y (P false) (Q true) → (s : ℕ) → suc n ≤ s → e < s → s ≤ x → (t : ℕ) × (x < t) × (t + (P false).at t ≤ s + (P false).at s)
    red (inr H) s h k j = absurd (omega (arith, H.late, yl, el))
    red (inl L) s h k j =
        let d = T.date in
        let a = el in
        let b = yl in
        L.zero_side s (omega arith)
        (
        ⊎_elim
        (λ (c : L.mark ≤ e). omega arith)
        (λ (c : e < L.mark).
        let t = L.under (suc l) (omega arith) (omega arith) (omega arith) in
        absurd
        (
        omega (
          arith,
          T.past t.0 (omega arith),
          E.y_more.high t.0 (omega arith) (omega arith),
          E.y_more.high (suc l) (omega arith) (omega arith),
          (P false).anti (suc e) L.mark c,
          F.present,
          F.same e F.date (omega arith),
        )
        ))
        (cmp L.mark e)
        )
        j

    go : (s : ℕ) → suc n ≤ s → (s ≤ e) ⊎ (e < s) → (s ≤ x) ⊎ (x < s) → (t : ℕ) × (s ≤ t) × (t + (S false).at t ≤ s + (R false).at s + 0)
    go s h (inl a) (inl b) = (s, omega arith, omega (arith, q.rest.low s h a, E.x_more.low s (omega arith) b, kp.is s h))
    go s h (inl a) (inr b) = absurd (omega arith)
    go s h (inr a) (inr b) = (s, omega arith, omega (arith, q.rest.high s h a, E.x_more.high s (omega arith) b, kp.is s h))
    go s h (inr a) (inl b) =
        let t = red E.either s h a b in
        let f = q.rest.high t.0 (omega arith) (omega arith) in
        (t.0, omega arith, omega (arith, E.x_more.high t.0 (omega arith) t.1, kp.is s h, kp.is t.0 (omega arith)))

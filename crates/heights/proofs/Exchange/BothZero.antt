-- A served slot in which both boards have a tight 0-job, and the earliest 0-job e of P is at x or before: both take e, and the exchange goes on.
use mathlib.Core.Path.{◌≡◌}
use mathlib.Core.Bool.{true, false}
use mathlib.Core.Logic.{inl, inr, ⊎_elim}
use Prim.Native.Nat.{ℕ, suc, ◌+◌, ◌≤◌, ◌<◌}
use native.Mathlib.Omega.{arith}
use Rattle.heights.proofs.Heights.Part.{Part, Same, Out, cmp, above}
use Rattle.heights.proofs.Heights.OneMore.{more_le, more_out, more_same}
use Rattle.heights.proofs.Heights.TightSlot.{TightSlot}
use Rattle.heights.proofs.Heights.Exists.{EarliestSlot}
use Rattle.heights.proofs.Sides.Board.{Sides, whole}
use Rattle.heights.proofs.Exchange.Condition.{Before, Redundant, Exchanged, exchange_forth}
use Rattle.heights.proofs.Exchange.Later.{before_later, after_later}

-- up to a tight job e of P and past y, some later place is lower by one
pub dip : {n l x y : ℕ} {P Q : Sides} → Exchanged n x y P Q → n ≤ x → TightSlot n (whole P) l → (e : ℕ) → e ≤ l → (s : ℕ) → suc n ≤ s → y < s → s ≤ e
    → (t : ℕ) × (e < t) × (t + (P false).at t + (Q true).at t < s + (P false).at s + (Q true).at s)
dip {n} {l} {x} {y} {P} {Q} E nx T e el s h k j = ⊎_elim (λ g. flat g ((exchange_forth E).to n (omega arith))) steep (cmp ((whole P).at n) ((whole P).at s))
  where
    steep : (whole P).at s < (whole P).at n → (t : ℕ) × (e < t) × (t + (P false).at t + (Q true).at t < s + (P false).at s + (Q true).at s)
    steep g = (
      suc l,
      omega arith,
      omega (arith, T.upto s (omega arith) (omega arith) g, E.y_more.high s (omega arith) k, E.y_more.high (suc l) (omega arith) (omega arith)),
    )

    -- no job of P in date is below s, so y has expired
    gone : (whole P).at n ≤ (whole P).at s → y < n
    gone g =
        above n y (λ i. omega (
          arith,
          E.y_more.low y i (omega arith),
          E.y_more.high (suc y) (omega arith) (omega arith),
          (Q true).anti y (suc y) (omega arith),
          (P true).anti n y i,
          (P true).anti (suc y) s k,
          (P false).anti n s (omega arith),
        ))

    flat : (whole P).at n ≤ (whole P).at s → (t : ℕ) × (n ≤ t) × (t + (whole Q).at t ≤ n + (whole P).at n + 0)
        → (t : ℕ) × (e < t) × (t + (P false).at t + (Q true).at t < s + (P false).at s + (Q true).at s)
    flat g (t, nt, q) =
        let yn = gone g in
        let same : (u : ℕ) → n ≤ u → (P true).at u ≡ (Q true).at u = λ u v. E.y_more.high u v (omega arith) in
        let qt = more_le E.x_more t nt in
        ⊎_elim
        {C = (t : ℕ) × (e < t) × (t + (P false).at t + (Q true).at t < s + (P false).at s + (Q true).at s)}
        (λ (i : t ≤ e).
        ⊎_elim
        (λ (f : (whole P).at n ≤ (whole P).at t). absurd (omega (arith, same t nt, E.x_more.low t nt (omega (arith, same t nt)))))
        (λ (f : (whole P).at t < (whole P).at n).
        (suc l, omega arith, omega (arith, T.upto t nt (omega arith) f, same t nt, same s (omega arith), same (suc l) (omega arith))))
        (cmp ((whole P).at n) ((whole P).at t)))
        (λ (i : e < t). (t, i, omega (arith, same t nt, same s (omega arith), same n (omega arith))))
        (cmp t e)

-- the earliest job e leaves A: a place beyond x that was lower by one than s, up to e, is no higher, and the jobs at s count as those at e
pub lower : {n e : ℕ} {A B C D : Part} (x : ℕ) → EarliestSlot n A e → Out n e A C → Same (suc n) B D → e ≤ x → (s : ℕ) → suc n ≤ s → s ≤ e
    → (t : ℕ) × (x < t) × (t + A.at t + B.at t < s + A.at s + B.at s)
    → (t : ℕ) × (x < t) × (t + C.at t + D.at t ≤ s + C.at s + D.at s) × (t + C.at t + D.at t ≤ s + C.at e + D.at s)
lower {e = e} x F p k ex s h j (t, i, q) =
    let a = p.rest.high t (omega arith) (omega arith) in
    let b = k.is t (omega arith) in
    let c = k.is s h in (
      t,
      i,
      omega (arith, p.rest.low s h j),
      omega (arith, p.rest.low e (omega arith) (omega arith), F.same e F.date (omega arith), F.same s (omega arith) j),
    )

-- both have a tight 0-job, the earliest 0-job e of P is at x or before: both take e
pub both_take : {n l e x y : ℕ} {P Q R S : Sides} → Exchanged n x y P Q → n ≤ x → TightSlot n (whole P) l → EarliestSlot n (P false) e → e ≤ l → e ≤ x
    → Out n e (P false) (R false) → Same (suc n) (P true) (R true)
    → Out n e (Q false) (S false) → Same (suc n) (Q true) (S true) → Exchanged (suc n) x y R S
both_take {n} {l} {e} {x} {y} {P} {Q} {R} {S} E nx T F el ex p kp q kq =
    record {
      x_more = more_out E.x_more q p;
      y_more = more_same (suc n) (omega arith) E.y_more kp kq;
      either = go E.either;
    }
  where
    deep : (L : Before n x y (P false) (Q true)) → L.mark ≤ e → (s : ℕ) → suc n ≤ s → y < s → s ≤ e
        → (t : ℕ) × (x < t) × (t + (P false).at t + (Q true).at t < s + (P false).at s + (Q true).at s)
    deep L g s h k j =
        let t = dip E nx T e el s h k j in
        ⊎_elim
        {C = (t : ℕ) × (x < t) × (t + (P false).at t + (Q true).at t < s + (P false).at s + (Q true).at s)}
        (λ (i : t.0 ≤ x). let u = L.over t.0 (omega arith) (omega arith) (omega arith) i in (u.0, u.1, omega arith))
        (λ (i : x < t.0). (t.0, i, t.2))
        (cmp t.0 x)

    lo : (L : Before n x y (P false) (Q true)) → L.mark ≤ e → Before (suc n) x y (R false) (S true)
    lo L g =
        record {
          early = L.early;
          mark = e;
          mark_le = ex;
          zero_side =
              λ s h k j.
              let t = L.zero_side s (omega arith) (omega arith) j in
              (t.0, t.1, omega (arith, p.rest.high s h k, p.rest.high t.0 (omega arith) (omega arith)));
          over =
              λ s h k f j.
              ⊎_elim
              {C = (t : ℕ) × (x < t) × (t + (R false).at t + (S true).at t ≤ s + (R false).at s + (S true).at s)}
              (λ (c : s ≤ e). let t = lower x F p kq ex s h c (deep L g s h k c) in (t.0, t.1, t.2))
              (λ (c : e < s).
              let t = L.over s (omega arith) k (omega arith) j in
              (t.0, t.1, omega (arith, p.rest.high s h c, p.rest.high t.0 (omega arith) (omega arith), kq.is s h, kq.is t.0 (omega arith))))
              (cmp s e);
          under = λ s h k j. let t = lower x F p kq ex s h j (deep L g s h k j) in (t.0, t.1, t.3);
        }

    go : Redundant n x y (P false) (Q true) → Redundant (suc n) x y (R false) (S true)
    go (inl L) =
        ⊎_elim
        {C = Redundant (suc n) x y (R false) (S true)}
        (λ (g : L.mark ≤ e). inl (lo L g))
        (λ (g : e < L.mark). inl (before_later L (λ s h j. p.rest.high s h (omega arith)) (λ s h j. kq.is s h)))
        (cmp L.mark e)
    go (inr H) = inr (after_later H (λ s h j. p.rest.high s h (omega arith)) (λ s h j. kq.is s h))

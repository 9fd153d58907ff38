-- Stuffing: so many jobs with last slot l arrive that they cannot all leave by then. It keeps the tight slot between l and where it was, L.
use mathlib.Core.Path.{◌≡◌}
use Prim.Native.Nat.{ℕ, suc, ◌+◌, ◌≤◌, ◌<◌}
use native.Mathlib.Omega.{arith}
use Rattle.heights.proofs.Heights.Part.{Part, Out, out_less, out_one, not_above}
use Rattle.heights.proofs.Heights.TightSlot.{TightSlot, tight_unique}
use Rattle.heights.proofs.Heights.Removal.{TightOut}

-- at t, the jobs with last slot l outnumber the slots left to l
pub record Stuffed (t l : ℕ) (X : Part) : Type 0 where
  pub more : X.at (suc l) + l + 2 ≤ X.at l + t

pub record Pinned (t l L : ℕ) (X : Part) : Type 0 where
  pub upto : l ≤ L
  pub stuffed : Stuffed t l X
  -- past L no height is less
  pub past : (s : ℕ) → L < s → suc L + X.at (suc L) ≤ s + X.at s

pub stuffed_some : {t l : ℕ} {X : Part} → Stuffed t l X → t ≤ l → 0 < X.at t
stuffed_some {t} {l} {X} S h = omega (arith, S.more, X.anti t l h)

pub pinned_ge : {t l L m : ℕ} {X : Part} → Pinned t l L X → t ≤ l → TightSlot t X m → l ≤ m
pinned_ge {t} {l} {L} {m} {X} N h T =
    not_above l m (λ i. omega (arith, T.past (suc l) (omega arith), N.stuffed.more, X.anti (suc m) l i, T.date))

pub pinned_le : {t l L m : ℕ} {X : Part} → Pinned t l L X → t ≤ l → TightSlot t X m → m ≤ L
pinned_le {t} {l} {L} {m} {X} N h T =
    not_above m L (λ i. omega (
      arith,
      N.upto,
      N.past (suc m) (omega arith),
      T.upto (suc L) (omega (arith, N.upto)) i (omega (arith, N.stuffed.more, X.anti t l h, X.anti (suc l) (suc L) (omega (arith, N.upto)))),
    ))

-- Y is left after slot t, F arrives, and Z is what there is then
pub stuffed_start : {t l : ℕ} (Y F Z : Part) → l + 1 ≤ F.at l + t → F.at (suc l) ≡ 0 → ((s : ℕ) → Z.at s ≡ Y.at s + F.at s) → Stuffed (suc t) l Z
stuffed_start {t} {l} Y F Z f g z = record { more = omega (arith, z l, z (suc l), Y.anti l (suc l) (omega arith)) }

pub stuffed_step : {t l p : ℕ} {X Y : Part} (F Z : Part) → Stuffed t l X → suc t ≤ l → Out t p X Y → F.at (suc l) ≡ 0
    → ((s : ℕ) → Z.at s ≡ Y.at s + F.at s)
    → Stuffed (suc t) l Z
stuffed_step {t} {l} F Z S h o f z = record { more = omega (arith, S.more, z (suc l), z l, out_less o (suc l) (omega arith), out_one o l h) }

past_step : {t l L p : ℕ} {X Y : Part} (F Z : Part) → l ≤ L → t ≤ l → ((s : ℕ) → L < s → suc L + X.at (suc L) ≤ s + X.at s) → Out t p X Y → p ≤ L
    → F.at (suc l) ≡ 0
    → ((s : ℕ) → Z.at s ≡ Y.at s + F.at s) → (s : ℕ) → L < s → suc L + Z.at (suc L) ≤ s + Z.at s
past_step {t} {l} {L} F Z a b N o pL f z s k =
    omega (
      arith,
      N s k,
      z s,
      z (suc L),
      F.anti (suc l) s (omega arith),
      F.anti (suc l) (suc L) (omega arith),
      o.rest.high s (omega arith) (omega arith),
      o.rest.high (suc L) (omega arith) (omega arith),
    )

-- a tight job leaves, and the stuffing arrives
pub pinned_start : {n l L : ℕ} {X Y : Part} (F Z : Part) → TightSlot n X L → TightOut n X Y → n < l → l ≤ L → l + 1 ≤ F.at l + n → F.at (suc l) ≡ 0
    → ((s : ℕ) → Z.at s ≡ Y.at s + F.at s) → Pinned (suc n) l L Z
pinned_start {n} {l} {L} {Y = Y} F Z T o nl lL f g z =
    record {
      upto = lL;
      stuffed = stuffed_start Y F Z f g z;
      past = past_step F Z lL (omega arith) T.past o.out (omega (arith, o.within, tight_unique T o.tight)) g z;
    }

-- a tight job leaves, and jobs with last slots up to l arrive
pub pinned_step : {t l L : ℕ} {X Y : Part} (F Z : Part) → Pinned t l L X → suc t ≤ l → TightOut t X Y → F.at (suc l) ≡ 0
    → ((s : ℕ) → Z.at s ≡ Y.at s + F.at s)
    → Pinned (suc t) l L Z
pinned_step {t} {l} {L} F Z N h o f z =
    record {
      upto = N.upto;
      stuffed = stuffed_step F Z N.stuffed h o.out f z;
      past = past_step F Z N.upto (omega arith) N.past o.out (omega (arith, o.within, pinned_le N (omega arith) o.tight)) f z;
    }

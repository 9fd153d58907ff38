-- P and Q differ in one job each: Q has a 0-job x where P has a 1-job y, both named by their last slots; y may have expired.
-- What both have is X: its 0-jobs are P's, its 1-jobs are Q's. A job is redundant where for each height there is a later one beyond it that is no more.
use mathlib.Core.Bool.{true, false}
use mathlib.Core.Logic.{◌⊎◌, ⊎_elim}
use Prim.Native.Nat.{ℕ, ◌+◌, ◌≤◌, ◌<◌}
use native.Mathlib.Omega.{arith}
use Rattle.heights.proofs.Heights.Part.{Part, ◌⊕◌, OneMore, more_at, at_more, cmp}
use Rattle.heights.proofs.Heights.Reach.{Reach}
use Rattle.heights.proofs.Sides.Board.{Sides, whole}

-- y < x. A and B are the 0-jobs and the 1-jobs of X
pub record Before (n x y : ℕ) (A B : Part) : Type 0 where
  pub early : y < x
  pub mark : ℕ
  pub mark_le : mark ≤ x
  -- x is redundant in A past the mark
  pub zero_side : (s : ℕ) → n ≤ s → mark < s → s ≤ x → (t : ℕ) × (x < t) × (t + A.at t ≤ s + A.at s)
  -- x is redundant in X without its 0-jobs below the mark, past y: where s is at the mark or later, and where it is earlier
  pub over : (s : ℕ) → n ≤ s → y < s → mark ≤ s → s ≤ x → (t : ℕ) × (x < t) × (t + A.at t + B.at t ≤ s + A.at s + B.at s)
  pub under : (s : ℕ) → n ≤ s → y < s → s ≤ mark → (t : ℕ) × (x < t) × (t + A.at t + B.at t ≤ s + A.at mark + B.at s)

-- x ≤ y: y is redundant in X past x
pub record After (n x y : ℕ) (A B : Part) : Type 0 where
  pub late : x ≤ y
  pub redundant : (s : ℕ) → n ≤ s → x < s → s ≤ y → (t : ℕ) × (y < t) × (t + A.at t + B.at t ≤ s + A.at s + B.at s)

abbrev pub Redundant : ℕ → ℕ → ℕ → Part → Part → Type 0
Redundant n x y A B = Before n x y A B ⊎ After n x y A B

pub record Exchanged (n x y : ℕ) (P Q : Sides) : Type 0 where
  pub x_more : OneMore n x (Q false) (P false)
  pub y_more : OneMore n y (P true) (Q true)
  pub either : Redundant n x y (P false) (Q true)

-- past y, x is redundant in X
pub past_y : {n x y : ℕ} {A B : Part} → Before n x y A B → (s : ℕ) → n ≤ s → y < s → s ≤ x
    → (t : ℕ) × (x < t) × (t + A.at t + B.at t ≤ s + A.at s + B.at s)
past_y {n} {x} {y} {A} {B} L s h k j =
    ⊎_elim (λ (g : L.mark ≤ s). L.over s h k g j) (λ (g : s < L.mark). low g (L.under s h k (omega arith))) (cmp L.mark s)
  where
    low : s < L.mark → (t : ℕ) × (x < t) × (t + A.at t + B.at t ≤ s + A.at L.mark + B.at s)
        → (t : ℕ) × (x < t) × (t + A.at t + B.at t ≤ s + A.at s + B.at s)
    low g t = (t.0, t.1, omega (arith, A.anti s L.mark (omega arith)))

-- A is X and a job y, B is X and a job x: A reaches B if x is redundant in X past y
gap_reach : {n x y : ℕ} {A B X : Part} → OneMore n y A X → OneMore n x B X
    → ((s : ℕ) → n ≤ s → y < s → s ≤ x → (t : ℕ) × (x < t) × (t + X.at t ≤ s + X.at s)) → Reach n 0 A B
gap_reach {n} {x} {y} {A} {B} a b f =
    record {
      to =
          λ s h.
          ⊎_elim
          {C = (t : ℕ) × (s ≤ t) × (t + B.at t ≤ s + A.at s + 0)}
          (λ (i : s ≤ x).
          ⊎_elim
          (λ (j : s ≤ y). (s, omega arith, omega (arith, more_at a s h, more_at b s h)))
          (λ (j : y < s). let t = f s h j i in (t.0, omega arith, omega (arith, a.high s h j, b.high t.0 (omega arith) t.1)))
          (cmp s y))
          (λ (i : x < s). (s, omega arith, omega (arith, more_at a s h, more_at b s h)))
          (cmp s x);
    }

-- as wholes, P and Q reach each other
module _ {n x y : ℕ} {P Q : Sides} (e : Exchanged n x y P Q) where
  abbrev X : Part
  X = P false ⊕ Q true

  with_y : OneMore n y (whole P) X
  with_y = at_more (λ s h. omega (arith, more_at e.y_more s h))

  with_x : OneMore n x (whole Q) X
  with_x = at_more (λ s h. omega (arith, more_at e.x_more s h))

  pub exchange_forth : Reach n 0 (whole P) (whole Q)
  exchange_forth =
      gap_reach with_y with_x
      (λ s h j i. ⊎_elim (λ L. let t = past_y L s h j i in (t.0, t.1, omega arith)) (λ H. absurd (omega (arith, H.late))) e.either)

  pub exchange_back : Reach n 0 (whole Q) (whole P)
  exchange_back =
      gap_reach with_x with_y
      (λ s h j i. ⊎_elim (λ L. absurd (omega (arith, L.early))) (λ H. let t = H.redundant s h j i in (t.0, t.1, omega arith)) e.either)

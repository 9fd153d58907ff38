-- An exchange stays one when a slot passes in which nothing leaves, and when the same jobs arrive on both boards.
use mathlib.Core.Path.{◌≡◌}
use mathlib.Core.Bool.{true, false}
use mathlib.Core.Logic.{◌⊎◌, inl, inr, ⊎_elim}
use Prim.Native.Nat.{ℕ, suc, ◌≤◌, ◌<◌}
use native.Mathlib.Omega.{arith}
use Rattle.heights.proofs.Heights.Part.{Part, ◌⊕◌, Same}
use Rattle.heights.proofs.Heights.OneMore.{more_same, more_join}
use Rattle.heights.proofs.Sides.Board.{Sides, join, SameSides}
use Rattle.heights.proofs.Exchange.Condition.{Before, After, Redundant, Exchanged}

-- C and D agree with A and B wherever Before looks: from the mark on, and past y
pub before_later : {n x y : ℕ} {A B C D : Part} (L : Before n x y A B) → ((s : ℕ) → suc n ≤ s → L.mark ≤ s → A.at s ≡ C.at s)
    → ((s : ℕ) → suc n ≤ s → y < s → B.at s ≡ D.at s)
    → Before (suc n) x y C D
before_later {n} {x} {y} {A} {B} {C} {D} L a b =
    record {
      early = L.early;
      mark = L.mark;
      mark_le = L.mark_le;
      zero_side = λ s h k j. let t = L.zero_side s (omega arith) k j in (t.0, t.1, omega (arith, a s h (omega arith), a t.0 (omega arith) (omega arith)));
      over =
          λ s h k g j.
          let t = L.over s (omega arith) k g j in
          (t.0, t.1, omega (arith, a s h g, a t.0 (omega arith) (omega (arith, L.mark_le)), b s h k, b t.0 (omega arith) (omega arith)));
      under =
          λ s h k j.
          let t = L.under s (omega arith) k j in (
            t.0,
            t.1,
            omega (
              arith,
              a L.mark (omega arith) (omega arith),
              a t.0 (omega (arith, L.mark_le)) (omega (arith, L.mark_le)),
              b s h k,
              b t.0 (omega (arith, L.mark_le)) (omega (arith, L.early)),
            ),
          );
    }

pub after_later : {n x y : ℕ} {A B C D : Part} → After n x y A B → ((s : ℕ) → suc n ≤ s → x < s → A.at s ≡ C.at s)
    → ((s : ℕ) → suc n ≤ s → x < s → B.at s ≡ D.at s)
    → After (suc n) x y C D
after_later H a b =
    record {
      late = H.late;
      redundant =
          λ s h k j.
          let t = H.redundant s (omega arith) k j in
          (t.0, t.1, omega (arith, a s h k, a t.0 (omega arith) (omega arith), b s h k, b t.0 (omega arith) (omega arith)));
    }

-- either way, where C and D agree with A and B past some slot up to x and y
pub redundant_later : {n x y : ℕ} {A B C D : Part} (z : ℕ) → z ≤ x → z ≤ y → Redundant n x y A B → Same (suc n) A C
    → ((s : ℕ) → suc n ≤ s → z < s → B.at s ≡ D.at s) → Redundant (suc n) x y C D
redundant_later {n} {x} {y} {C = C} {D} z zx zy r k f =
    ⊎_elim
    {C = Redundant (suc n) x y C D}
    (λ L. inl (before_later L (λ s h j. k.is s h) (λ s h j. f s h (omega arith))))
    (λ H. inr (after_later H (λ s h j. k.is s h) (λ s h j. f s h (omega arith))))
    r

pub exchange_same : {n x y : ℕ} {P Q R S : Sides} → Exchanged n x y P Q → SameSides (suc n) P R → SameSides (suc n) Q S → Exchanged (suc n) x y R S
exchange_same {n} e k l =
    record {
      x_more = more_same (suc n) (omega arith) e.x_more (l false) (k false);
      y_more = more_same (suc n) (omega arith) e.y_more (k true) (l true);
      either = redundant_later 0 (omega arith) (omega arith) e.either (k false) (λ s h j. (l true).is s h);
    }

before_join : {n x y : ℕ} {A B : Part} (F G : Part) → Before n x y A B → Before n x y (A ⊕ F) (B ⊕ G)
before_join F G L =
    record {
      early = L.early;
      mark = L.mark;
      mark_le = L.mark_le;
      zero_side = λ s h k j. let t = L.zero_side s h k j in (t.0, t.1, omega (arith, F.anti s t.0 (omega arith)));
      over = λ s h k g j. let t = L.over s h k g j in (t.0, t.1, omega (arith, F.anti s t.0 (omega arith), G.anti s t.0 (omega arith)));
      under =
          λ s h k j.
          let t = L.under s h k j in
          (t.0, t.1, omega (arith, F.anti L.mark t.0 (omega (arith, L.mark_le)), G.anti s t.0 (omega (arith, L.mark_le))));
    }

after_join : {n x y : ℕ} {A B : Part} (F G : Part) → After n x y A B → After n x y (A ⊕ F) (B ⊕ G)
after_join F G H =
    record {
      late = H.late;
      redundant = λ s h k j. let t = H.redundant s h k j in (t.0, t.1, omega (arith, F.anti s t.0 (omega arith), G.anti s t.0 (omega arith)));
    }

pub exchange_join : {n x y : ℕ} {P Q : Sides} (F : Sides) → Exchanged n x y P Q → Exchanged n x y (join P F) (join Q F)
exchange_join {n} {x} {y} {P} {Q} F e =
    record {
      x_more = more_join (F false) e.x_more;
      y_more = more_join (F true) e.y_more;
      either =
          ⊎_elim
          {C = Before n x y (P false ⊕ F false) (Q true ⊕ F true) ⊎ After n x y (P false ⊕ F false) (Q true ⊕ F true)}
          (λ L. inl (before_join (F false) (F true) L))
          (λ H. inr (after_join (F false) (F true) H))
          e.either;
    }

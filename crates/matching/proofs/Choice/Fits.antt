-- A set fits exactly where no slots from a to b, for any a and b, have more jobs in them than slots.
use mathlib.Core.Path.{◌≡◌}
use mathlib.Core.Bool.{Bool, true, false, ◌&&◌}
use mathlib.Core.Logic.{◌⊎◌, inl, inr}
use mathlib.Core.List.{List}
use Prim.Native.Nat.{ℕ, suc, ◌-◌, ◌≤◌, ◌<◌}
use native.Mathlib.Omega.{arith}
use lib.Dec.{leb}
use lib.ListN.{length}
use borrow.Author.Tests.{leb-true, leb-false, le-leb}
use Rattle.lists.specs.Select.{every}
use Rattle.lists.proofs.Tests.{test, cmp, and_left, and_right, and_intro}
use Rattle.matching.specs.declared.Window.{Window}
use Rattle.matching.specs.Below.{all_below}
use Rattle.matching.specs.Windows.{slot_count, inside, is_window}
use Rattle.matching.specs.Choice.{is_in, count_within, all_fit}
use Rattle.matching.proofs.Below.Counting.{count_mono, count_none}
use Rattle.matching.proofs.Below.All.{all_at, all_pass, not_all}
use Rattle.matching.proofs.Windows.{window_at, inside_yes, inside_from}

-- no more jobs of c in the slots from a to b than of d in those from e to f
pub crowd_mono : (ws : List Window) (c d : List Bool) (a b e f : ℕ)
    → ((i : ℕ) → i < length ws → is_in c i ≡ true → inside ws a b i ≡ true → (is_in d i ≡ true) × (inside ws e f i ≡ true))
    → count_within ws c a b ≤ count_within ws d e f
unfolding count_within
crowd_mono ws c d a b e f g =
    count_mono (λ i. is_in c i && inside ws a b i) (λ i. is_in d i && inside ws e f i) (length ws)
    (λ i h k. let r = g i h (and_left (is_in c i) (inside ws a b i) k) (and_right (is_in c i) (inside ws a b i) k) in and_intro (is_in d i) (inside ws e f i) r.0 r.1)

pub crowd_none : (ws : List Window) (c : List Bool) (a b : ℕ)
    → ((i : ℕ) → i < length ws → is_in c i ≡ true → inside ws a b i ≡ true → ⊥)
    → count_within ws c a b ≡ 0
unfolding count_within
crowd_none ws c a b g = count_none (λ i. is_in c i && inside ws a b i) (length ws) (λ i h. go i h (test (is_in c i && inside ws a b i)))
  where
    go : (i : ℕ) → i < length ws → ((is_in c i && inside ws a b i) ≡ true) ⊎ ((is_in c i && inside ws a b i) ≡ false) → (is_in c i && inside ws a b i) ≡ false
    go i h (inl e) = absurd (g i h (and_left (is_in c i) (inside ws a b i) e) (and_right (is_in c i) (inside ws a b i) e))
    go i h (inr e) = e

module _ (ws : List Window) (c : List Bool) where
  row : ℕ → Bool
  row a = all_below (λ b. leb (count_within ws c a b) (suc b - a)) (suc slot_count)

  pub fits_if : ((a b : ℕ) → count_within ws c a b ≤ suc b - a) → all_fit ws c ≡ true
  unfolding all_fit row
  fits_if f =
      all_pass row (suc slot_count) (λ a h. all_pass (λ b. leb (count_within ws c a b) (suc b - a)) (suc slot_count) (λ b k. le-leb (count_within ws c a b) (suc b - a) (f a b)))

  in_range : all_fit ws c ≡ true → (a b : ℕ) → a ≤ slot_count → b ≤ slot_count → count_within ws c a b ≤ suc b - a
  unfolding all_fit row
  in_range e a b h k =
      leb-true (count_within ws c a b) (suc b - a)
      (all_at (λ b. leb (count_within ws c a b) (suc b - a)) (suc slot_count) b (all_at row (suc slot_count) a e (omega arith)) (omega arith))

  pub record Over : Type 0 where
    pub from : ℕ
    pub to : ℕ
    pub from_small : from ≤ slot_count
    pub to_small : to ≤ slot_count
    pub over : suc to - from < count_within ws c from to

  pub fits_not : all_fit ws c ≡ false → Over
  unfolding all_fit row
  fits_not e =
      let r = not_all row (suc slot_count) e in
      let s = not_all (λ b. leb (count_within ws c r.at b) (suc b - r.at)) (suc slot_count) r.fails in
      record { from = r.at; to = s.at; from_small = omega (arith, r.below); to_small = omega (arith, s.below); over = leb-false (count_within ws c r.at s.at) (suc s.at - r.at) s.fails }

  module _ (ok : every is_window ws ≡ true) where
    -- past the last slot there is nothing
    pub hall : all_fit ws c ≡ true → (a b : ℕ) → count_within ws c a b ≤ suc b - a
    hall e a b = go (cmp a slot_count) (cmp b slot_count)
      where
        go : (a ≤ slot_count) ⊎ (slot_count < a) → (b ≤ slot_count) ⊎ (slot_count < b) → count_within ws c a b ≤ suc b - a
        go (inl h) (inl k) = in_range e a b h k
        go (inl h) (inr k) =
            omega (
              arith,
              in_range e a slot_count h (omega arith),
              crowd_mono ws c c a b a slot_count (λ i l y z. (y, inside_yes ws a slot_count i (inside_from ws a b i z) (window_at ws ok i l).to_end)),
            )
        go (inr h) k =
            omega (
              arith,
              crowd_none ws c a b (λ i l y z. let w = window_at ws ok i l in omega (arith, w.ordered, w.to_end, inside_from ws a b i z)),
            )

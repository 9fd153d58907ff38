-- The first line of some bytes, and the lines behind it.
use mathlib.Core.Path.{◌≡◌, refl, sym, ap, ◌∙◌}
use mathlib.Core.Bool.{true, false}
use mathlib.Core.List.{List, [], ◌∷◌}
use mathlib.Core.Logic.{◌⊎◌, inl, inr}
use Prim.Native.Nat.{ℕ, suc, ◌≤◌}
use native.Mathlib.Omega.{arith}
use lib.Dec.{eqb}
use lib.ListN.{length, take, drop}
use Rattle.lists.specs.Before.{before}
use Rattle.lists.proofs.Before.{before_here, before_later}
use Rattle.lists.proofs.Tests.{test, cond_true, cond_false}
use Rattle.lines.specs.Bytes.{Bytes, line_end, onto_first, lines}

-- a line up to the n-th byte, and those behind its line end
abbrev cut_at : Bytes → ℕ → List Bytes
cut_at bs n = take n bs ∷ lines (drop (suc n) bs)

module _ (b : ℕ) (bs : Bytes) where
  ended : eqb b line_end ≡ true → lines (b ∷ bs) ≡ cut_at (b ∷ bs) (before line_end (b ∷ bs))
  unfolding lines
  ended e = cond_true (eqb b line_end) ([] ∷ lines bs) (onto_first b (lines bs)) e ∙ sym (ap (cut_at (b ∷ bs)) (before_here line_end b bs e))

  goes_on : eqb b line_end ≡ false → onto_first b (lines bs) ≡ cut_at (b ∷ bs) (suc (before line_end bs)) → lines (b ∷ bs) ≡ cut_at (b ∷ bs) (before line_end (b ∷ bs))
  unfolding lines
  goes_on e h =
      cond_false (eqb b line_end) ([] ∷ lines bs) (onto_first b (lines bs)) e ∙ h ∙ sym (ap (cut_at (b ∷ bs)) (before_later line_end b bs e))

  either : onto_first b (lines bs) ≡ cut_at (b ∷ bs) (suc (before line_end bs)) → lines (b ∷ bs) ≡ cut_at (b ∷ bs) (before line_end (b ∷ bs))
  either h = go (test (eqb b line_end))
    where
      go : (eqb b line_end ≡ true) ⊎ (eqb b line_end ≡ false) → lines (b ∷ bs) ≡ cut_at (b ∷ bs) (before line_end (b ∷ bs))
      go (inl e) = ended e
      go (inr e) = goes_on e h

pub next_line : (bs : Bytes) → 1 ≤ length bs → lines bs ≡ take (before line_end bs) bs ∷ lines (drop (suc (before line_end bs)) bs)
unfolding lines onto_first before
next_line [] h = absurd (omega arith)
next_line (b ∷ []) h = either b [] refl
next_line (b ∷ (x ∷ bs)) h = either b (x ∷ bs) (ap (onto_first b) (next_line (x ∷ bs) (omega arith)))

-- Cutting bytes at line ends: a line that ends, and one that is still being read.
use mathlib.Core.Path.{◌≡◌, refl, ap, ◌∙◌}
use mathlib.Core.Bool.{Bool, true, not}
use mathlib.Core.List.{[], ◌∷◌, ◌++◌}
use Prim.Native.Nat.{ℕ}
use lib.Dec.{eqb}
use borrow.Author.Tests.{not-true}
use Rattle.lists.specs.Select.{every}
use Rattle.lists.proofs.Tests.{and_left, and_right, cond_true, cond_false}
use Rattle.lines.specs.Bytes.{Bytes, line_end, onto_first, lines}

-- no byte of l ends a line
abbrev pub one_line : Bytes → Bool
one_line l = every (λ b. not (eqb b line_end)) l

cut : (b : ℕ) (bs : Bytes) → not (eqb b line_end) ≡ true → lines (b ∷ bs) ≡ onto_first b (lines bs)
unfolding lines
cut b bs h = cond_false (eqb b line_end) ([] ∷ lines bs) (onto_first b (lines bs)) (not-true (eqb b line_end) h)

pub lines_ended : (l bs : Bytes) (b : ℕ) → one_line l ≡ true → eqb b line_end ≡ true → lines (l ++ (b ∷ bs)) ≡ l ∷ lines bs
unfolding lines every onto_first
lines_ended [] bs b h e = cond_true (eqb b line_end) ([] ∷ lines bs) (onto_first b (lines bs)) e
lines_ended (c ∷ l) bs b h e =
    let n = not (eqb c line_end) in
    cut c (l ++ (b ∷ bs)) (and_left n (one_line l) h) ∙ ap (onto_first c) (lines_ended l bs b (and_right n (one_line l) h) e)

-- a line at the end of input; no bytes are no line
pub lines_last : (c : ℕ) (l : Bytes) → one_line (c ∷ l) ≡ true → lines (c ∷ l) ≡ (c ∷ l) ∷ []
unfolding lines every onto_first
lines_last c [] h = cut c [] (and_left (not (eqb c line_end)) true h)
lines_last c (x ∷ l) h =
    let n = not (eqb c line_end) in
    cut c (x ∷ l) (and_left n (one_line (x ∷ l)) h) ∙ ap (onto_first c) (lines_last x l (and_right n (one_line (x ∷ l)) h))

pub lines_none : lines [] ≡ []
unfolding lines
lines_none = refl

-- What one event makes of a tally: a count below the most rises by one, and no other count changes.
use mathlib.Core.Path.{◌≡◌, sym, ap, ap₂, ◌∙◌}
use mathlib.Core.Bool.{true, false, ◌&&◌, ◌||◌}
use mathlib.Core.Logic.{◌⊎◌, inl, inr}
use mathlib.Core.List.{List, [], ◌∷◌}
use Prim.Native.Nat.{ℕ, ◌+◌, ◌*◌, ◌^◌, ◌≤◌, ◌<◌}
use native.Mathlib.Omega.{arith}
use lib.Dec.{leb, eqb}
use lib.ListN.{length, get_or, set, length-set, get_or-replicate}
use lib.Pow.{pow_mono}
use lib.Seq.{get_or-set_same, get_or-set_other}
use borrow.Author.Tests.{lt-leb, eqb-true, eqb-false}
use Rattle.lists.specs.Select.{one_if}
use Rattle.lists.proofs.Tests.{test, and_left, and_right, and_false}
use Rattle.lists.proofs.Counting.{one_if_yes, one_if_no}
use Rattle.board.specs.declared.Tally.{Tally}
use Rattle.board.specs.declared.Counted.{Counted}
use Rattle.board.specs.Limits.{deepest}
use Rattle.board.specs.Rows.{◌if◌, first_given}
use Rattle.board.specs.Tally.{tally_kinds, tally_grades, tally_most, cell, count_at, zero_tally, tally_number, counted_if, counted}
use Rattle.board.proofs.Calls.Rows.{row_skipped}

-- a kind and a grade that have a count
pub record Cell (k g : ℕ) : Type 0 where
  pub kind : k < tally_kinds
  pub grade : g < tally_grades

-- the grades of a depth have counts
pub grades_counted : {d : ℕ} → d ≤ deepest → 2 ^ d ≤ tally_grades
unfolding tally_grades
grades_counted h = pow_mono h

-- the cell is one of the tally's
pub cell_inside : (k g : ℕ) → Cell k g → cell k g < tally_kinds * tally_grades
unfolding cell tally_kinds tally_grades
cell_inside k g c = omega (arith, c.kind, c.grade)

-- and no other kind and grade have it
module _ (k g j h : ℕ) (c : Cell k g) (a : Cell j h) (same : cell j h ≡ cell k g) where
  same_kind : k ≡ j
  unfolding cell tally_grades
  same_kind = omega (arith, c.grade, a.grade)

  same_grade : g ≡ h
  unfolding cell tally_grades
  same_grade = omega (arith, c.grade, a.grade)

pub zero_count : (k g : ℕ) → Cell k g → count_at zero_tally k g ≡ 0
unfolding count_at zero_tally
zero_count k g c = get_or-replicate (tally_kinds * tally_grades) (cell k g) 0 0 (cell_inside k g c)

module _ (t : Tally) (k g : ℕ) (c : Cell k g) (room : count_at t k g < tally_most) where
  pub number_zero : tally_number t k g ≡ 0
  unfolding tally_number first_given
  number_zero =
      row_skipped 9 (leb tally_kinds k || leb tally_grades g) (10 if leb tally_most (count_at t k g) ∷ []) (ap₂ ◌||◌ (lt-leb tally_kinds k c.kind) (lt-leb tally_grades g c.grade))
      ∙ row_skipped 10 (leb tally_most (count_at t k g)) [] (lt-leb tally_most (count_at t k g) room)

  pub taken : counted t k g ≡ record { refusal = 0; tally = record { counts = set t.counts (cell k g) (count_at t k g + 1) } }
  unfolding counted counted_if
  taken = ap (λ n. counted_if n t k g) number_zero

  pub counts_kept : length (counted t k g).tally.counts ≡ length t.counts
  counts_kept = ap (λ (r : Counted). length r.tally.counts) taken ∙ length-set t.counts (cell k g) (count_at t k g + 1)

  pub counted_at : length t.counts ≡ tally_kinds * tally_grades → (j h : ℕ) → Cell j h
      → count_at (counted t k g).tally j h ≡ one_if (eqb k j && eqb g h) + count_at t j h
  unfolding count_at
  counted_at full j h a = ap (λ (r : Counted). get_or r.tally.counts (cell j h) 0) taken ∙ go (test (eqb k j && eqb g h))
    where
      new : List ℕ
      new = set t.counts (cell k g) (count_at t k g + 1)

      differs : (eqb k j ≡ false) ⊎ (eqb g h ≡ false) → cell j h ≡ cell k g → ⊥
      differs (inl e) q = eqb-false k j e (same_kind k g j h c a q)
      differs (inr e) q = eqb-false g h e (same_grade k g j h c a q)

      go : ((eqb k j && eqb g h) ≡ true) ⊎ ((eqb k j && eqb g h) ≡ false) → get_or new (cell j h) 0 ≡ one_if (eqb k j && eqb g h) + count_at t j h
      go (inl e) =
          let same : cell j h ≡ cell k g =
          ap₂ cell (sym (eqb-true k j (and_left (eqb k j) (eqb g h) e))) (sym (eqb-true g h (and_right (eqb k j) (eqb g h) e))) in
          omega (
            arith,
            one_if_yes (eqb k j && eqb g h) e,
            ap (λ n. get_or new n 0) same,
            ap (λ n. get_or t.counts n 0) same,
            get_or-set_same t.counts (cell k g) (count_at t k g + 1) 0 (omega (arith, cell_inside k g c)),
          )
      go (inr e) =
          omega (
            arith,
            one_if_no (eqb k j && eqb g h) e,
            get_or-set_other t.counts (cell k g) (cell j h) (count_at t k g + 1) 0 (differs (and_false (eqb k j) (eqb g h) e)),
          )

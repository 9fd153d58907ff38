-- The cells of a column: they are among the counts, one behind the other.
use Rattle.std.proofs.Common.{◌≡◌, ℕ, ◌+◌, ◌-◌, ◌*◌, ◌%◌, ◌^◌, ◌<◌, ◌≤◌, List, get_or, length, take, drop, ap, ◌∙◌, arith}
use native.Mathlib.Nat.{one-mul}
use Rattle.std.proofs.lemmas.List.{get_or-take, get_or-drop, length-take, length-drop}
use lib.Dec.{lit<}
use lib.Pow.{shl_exact, pow_mono}
use Rattle.board.specs.Limits.{longest_laxity, deepest}
use Rattle.board.specs.Tally.{tally_grades, cell}
use Rattle.counts.specs.Counts.{cells}
use Rattle.search.specs.Inner.Start.{Start}
use Rattle.search.proofs.Start.{start_short}

-- the cells from the first on
abbrev pub cell_from : List ℕ → (start left k : ℕ) → ℕ → ℕ
cell_from t start left k i = get_or t (cell k (start * 2 ^ left) + i) 0

module _ (start left k : ℕ) (row : k < longest_laxity) (fits : Start deepest start left) where
  pub column_short : left < 64
  unfolding deepest
  column_short = omega (arith, start_short deepest left start fits)

  -- they are few
  pub column_narrow : 2 ^ left ≤ 2 ^ deepest
  column_narrow = pow_mono (start_short deepest left start fits)

  -- how many there are
  pub column_width : 1 * 2 ^ left % 2 ^ 64 ≡ 2 ^ left
  column_width = shl_exact 1 left 64 (lit< tt) (omega (arith, column_short)) ∙ one-mul (2 ^ left)

  -- the last is one of the counts
  pub column_inside : k * 8 + start * (1 * 2 ^ left % 2 ^ 64) + 1 * 2 ^ left % 2 ^ 64 ≤ cells
  unfolding cells longest_laxity tally_grades deepest
  column_inside = omega (arith, row, fits, column_width, ap (λ n. start * n) column_width)

  abbrev first : ℕ
  first = k * 8 + start * (1 * 2 ^ left % 2 ^ 64)

  -- the cells, as the code takes them
  abbrev cells_in : List ℕ → List ℕ
  cells_in t = take (first + 1 * 2 ^ left % 2 ^ 64 - first) (drop first t)

  pub cell_at : (t : List ℕ) (i : ℕ) → i < length (cells_in t) → get_or (cells_in t) i 0 ≡ cell_from t start left k i
  unfolding cell tally_grades deepest
  cell_at t i h =
      let n = first + 1 * 2 ^ left % 2 ^ 64 - first in
      let e : first ≡ k * 8 + start * 2 ^ left = ap (λ n. k * 8 + start * n) column_width in
      get_or-take n (drop first t) i 0 (omega (arith, h, length-take n (drop first t)))
      ∙ get_or-drop first t i 0
      ∙ ap (λ j. get_or t j 0) (omega (arith, e))

  pub all_cells : (t : List ℕ) → length t ≡ cells → length (cells_in t) ≡ 2 ^ left
  all_cells t l =
      let n = first + 1 * 2 ^ left % 2 ^ 64 - first in
      omega (arith, length-take n (drop first t), length-drop first t, l, column_inside, column_width)

-- The answer, by the rows that refuse a list.
use mathlib.Core.Path.{◌≡◌, sym, ap, ◌∙◌}
use mathlib.Core.Bool.{true, false, not}
use mathlib.Core.List.{List, [], ◌∷◌}
use Prim.Native.Nat.{ℕ, zero, suc, ◌≤◌, ◌<◌}
use native.Mathlib.Omega.{arith}
use lib.Dec.{ltb}
use lib.ListN.{replicate}
use borrow.Author.Tests.{lt-ltb, le-ltb}
use Rattle.lists.specs.Select.{every}
use Rattle.board.specs.declared.refusal.Refusal.{Refusal}
use Rattle.board.specs.Refusals.{number_of}
use Rattle.board.specs.Rows.{◌if◌, first_given}
use Rattle.board.proofs.Calls.Rows.{row_skipped}
use Rattle.matching.specs.declared.Window.{Window}
use Rattle.matching.specs.declared.Jobs.{Jobs}
use Rattle.matching.specs.Windows.{most_jobs, is_window, windows_of}
use Rattle.matching.specs.Choice.{chosen}
use Rattle.matching.specs.Layout.{layout}
use Rattle.matching.specs.Answer.{best_day_rows, best_day_if, best_day}

-- a refusal's number is not 0
number_some : (r : Refusal) → 1 ≤ number_of r
number_some r = grind arith

module _ (d : Jobs) where
  -- the number that the rows give
  pub rows_many : most_jobs < d.count → first_given (best_day_rows d) ≡ 18
  unfolding best_day_rows first_given ◌if◌
  rows_many h = ap (λ b. first_given (18 if b ∷ 19 if not (every is_window (windows_of d)) ∷ [])) (lt-ltb most_jobs d.count h)

  module _ (h : d.count ≤ most_jobs) where
    few : first_given (best_day_rows d) ≡ first_given (19 if not (every is_window (windows_of d)) ∷ [])
    unfolding best_day_rows
    few = row_skipped 18 (ltb most_jobs d.count) (19 if not (every is_window (windows_of d)) ∷ []) (le-ltb most_jobs d.count h)

    pub rows_no_window : every is_window (windows_of d) ≡ false → first_given (best_day_rows d) ≡ 19
    unfolding first_given ◌if◌
    rows_no_window e = few ∙ ap (λ b. first_given (19 if not b ∷ [])) e

    pub rows_none : every is_window (windows_of d) ≡ true → first_given (best_day_rows d) ≡ 0
    unfolding first_given ◌if◌
    rows_none e = few ∙ ap (λ b. first_given (19 if not b ∷ [])) e

  by_rows : (n : ℕ) → first_given (best_day_rows d) ≡ n → best_day d ≡ best_day_if n d
  unfolding best_day
  by_rows n e = ap (λ n. best_day_if n d) e

  -- the answers of the code, by the number that the rows give
  pub refused_answer : (r : Refusal) → number_of r ≡ first_given (best_day_rows d) → record { refusal = number_of r; slots = replicate most_jobs 0 } ≡ best_day d
  unfolding best_day_if
  refused_answer r e = go (number_of r) (number_some r) e
    where
      go : (n : ℕ) → 1 ≤ n → n ≡ first_given (best_day_rows d) → record { refusal = n; slots = replicate most_jobs 0 } ≡ best_day d
      go zero h e = absurd (omega arith)
      go (suc n) h e = sym (by_rows (suc n) (sym e))

  pub planned_answer : (ws : List Window) → ws ≡ windows_of d → 0 ≡ first_given (best_day_rows d) → record { refusal = 0; slots = layout ws (chosen ws) } ≡ best_day d
  unfolding best_day_if
  planned_answer ws h e = rw h (sym (by_rows 0 (sym e)))

  pub too_many : most_jobs < d.count → best_day d ≡ record { refusal = 18; slots = replicate most_jobs 0 }
  unfolding best_day_if
  too_many h = by_rows 18 (rows_many h)

  module _ (h : d.count ≤ most_jobs) where
    pub no_window : every is_window (windows_of d) ≡ false → best_day d ≡ record { refusal = 19; slots = replicate most_jobs 0 }
    unfolding best_day_if
    no_window e = by_rows 19 (rows_no_window h e)

    pub accepted : every is_window (windows_of d) ≡ true → best_day d ≡ record { refusal = 0; slots = layout (windows_of d) (chosen (windows_of d)) }
    unfolding best_day_if
    accepted e = by_rows 0 (rows_none h e)

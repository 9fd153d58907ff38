-- A list that is not refused is answered by a best plan.
use mathlib.Core.Path.{◌≡◌, refl, sym}
use mathlib.Core.Bool.{true, not}
use mathlib.Core.List.{[], ◌∷◌}
use Prim.Native.Nat.{ℕ, zero, suc, ◌≤◌}
use native.Mathlib.Omega.{arith}
use lib.Dec.{ltb}
use lib.ListN.{length-take}
use borrow.Author.Tests.{ltb-false, not-false}
use Rattle.lists.specs.Select.{every}
use Rattle.board.specs.Rows.{◌if◌, first_given}
use Rattle.board.proofs.Calls.Rows.{row_passed}
use Rattle.matching.specs.declared.Jobs.{Jobs}
use Rattle.matching.specs.Windows.{most_jobs, is_window, windows_of}
use Rattle.matching.specs.Assignments.{IsBest}
use Rattle.matching.specs.Answer.{best_day_rows, best_day_if, best_day}
use Rattle.matching.proofs.Best.Only.{best}

module _ (d : Jobs) where
  -- no number is given only where neither row is
  passed : first_given (best_day_rows d) ≡ 0 → (d.count ≤ most_jobs) × (every is_window (windows_of d) ≡ true)
  unfolding best_day_rows
  passed e =
      let few = row_passed 17 (ltb most_jobs d.count) (19 if not (every is_window (windows_of d)) ∷ []) e in
      let all = row_passed 18 (not (every is_window (windows_of d))) [] few.1 in
      (ltb-false most_jobs d.count few.0, not-false (every is_window (windows_of d)) all.0)

  best_then : (n : ℕ) → n ≡ first_given (best_day_rows d) → (best_day_if n d).refusal ≡ 0 → IsBest (windows_of d) (best_day_if n d).slots
  unfolding best_day_if windows_of
  best_then zero f e =
      let p = passed (sym f) in
      best (windows_of d) (omega (arith, length-take d.count d.windows)) p.1
  best_then (suc n) f e = absurd (omega arith)

  pub answered : (best_day d).refusal ≡ 0 → IsBest (windows_of d) (best_day d).slots
  unfolding best_day
  answered e = best_then (first_given (best_day_rows d)) refl e

-- Changes grouped by the closings: the jobs that enter before the first closing, and those that enter between each closing and the next.
use mathlib.Core.Path.{◌≡◌, refl, ap, ◌∙◌}
use mathlib.Core.List.{List, [], ◌∷◌, ◌++◌}
use Prim.Native.Nat.{ℕ, suc, ◌+◌}
use native.Mathlib.Omega.{arith}
use lib.ListN.{length}
use Rattle.rule.specs.Job.{Job, job}
use Rattle.books.specs.Book.{Change, enter, end_slot, closings, entered}

unfoldable pub first : ℕ → List Change → List Job
first s [] = []
first s (enter t w g ∷ es) = job t s w g ∷ first s es
first s (end_slot ∷ es) = []

unfoldable pub later : ℕ → List Change → List (List Job)
later s [] = []
later s (enter t w g ∷ es) = later s es
later s (end_slot ∷ es) = first (suc s) es ∷ later (suc s) es

pub later_length : (s : ℕ) (es : List Change) → length (later s es) ≡ closings es
unfolding later closings
later_length s [] = refl
later_length s (enter t w g ∷ es) = later_length s es
later_length s (end_slot ∷ es) = ap suc (later_length (suc s) es)

-- changes before others
pub closings_append : (es fs : List Change) → closings (es ++ fs) ≡ closings es + closings fs
unfolding closings
closings_append [] fs = omega arith
closings_append (enter t w g ∷ es) fs = closings_append es fs
closings_append (end_slot ∷ es) fs = omega (arith, closings_append es fs)

pub entered_append : (s : ℕ) (es fs : List Change) → entered s (es ++ fs) ≡ entered s es ++ entered (s + closings es) fs
unfolding closings entered
entered_append s [] fs = ap (λ k. entered k fs) (let z : s ≡ s + 0 = omega arith in z)
entered_append s (enter t w g ∷ es) fs = ap (job t s w g ∷◌) (entered_append s es fs)
entered_append s (end_slot ∷ es) fs =
    entered_append (suc s) es fs ∙ ap (λ k. entered (suc s) es ++ entered k fs) (let z : suc s + closings es ≡ s + suc (closings es) = omega arith in z)

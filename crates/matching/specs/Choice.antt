-- The jobs that are baked: in list order, each that can be added to those chosen before it. A set of jobs is a list of 64 flags.
use Rattle.std.specs.Prelude.{Bool, true, false, ◌&&◌, List, ℕ, zero, suc, ◌-◌, leb, length, get_or, set, replicate}
use Rattle.matching.specs.declared.Window.{Window}
use Rattle.matching.specs.Below.{count_below, all_below}
use Rattle.matching.specs.Windows.{most_jobs, slot_count, inside}

unfoldable pub is_in : List Bool → ℕ → Bool
is_in c i = get_or c i false

-- how many jobs of a set have their windows in the slots from a to b
unfoldable pub count_within : List Window → List Bool → (a b : ℕ) → ℕ
count_within ws c a b = count_below (λ i. is_in c i && inside ws a b i) (length ws)

-- A set can all be baked where no slots from a to b have more jobs that must be baked in them than slots (Hall's condition, for windows).
unfoldable pub all_fit : List Window → List Bool → Bool
all_fit ws c = all_below (λ a. all_below (λ b. leb (count_within ws c a b) (suc b - a)) (suc slot_count)) (suc slot_count)

-- of the first n jobs, those that are chosen
unfoldable pub chosen_to : List Window → ℕ → List Bool
chosen_to ws zero = replicate most_jobs false
chosen_to ws (suc n) = set (chosen_to ws n) n (all_fit ws (set (chosen_to ws n) n true))

unfoldable pub chosen : List Window → List Bool
chosen ws = chosen_to ws (length ws)

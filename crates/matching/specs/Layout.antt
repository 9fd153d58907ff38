-- 'The chosen racks are then laid out slot by slot: of those whose first slot has come, least last slot first, then earlier in the list'
use Rattle.std.specs.Prelude.{Bool, false, cond, ◌&&◌, ◌||◌, List, ℕ, zero, suc, leb, ltb, eqb, length, set, replicate}
use Rattle.matching.specs.declared.Window.{Window}
use Rattle.matching.specs.declared.Laid.{Laid}
use Rattle.matching.specs.Windows.{most_jobs, slot_count, first_of, last_of}
use Rattle.matching.specs.Choice.{is_in}

-- stands for none: jobs are counted from 0
abbrev pub no_job : ℕ
no_job = most_jobs

-- the job waits, and its first slot has come
unfoldable pub has_come : List Window → List Bool → (slot i : ℕ) → Bool
has_come ws waiting slot i = is_in waiting i && leb (first_of ws i) slot

-- the job i, where it has come and its last slot is less than that of the best so far, or there is none so far
unfoldable pub sooner : List Window → List Bool → (slot i best : ℕ) → ℕ
sooner ws waiting slot i best = cond (has_come ws waiting slot i && (eqb best no_job || ltb (last_of ws i) (last_of ws best))) i best

-- of the first n jobs that have come, the one with the least last slot, of several the earliest
unfoldable pub next_to : List Window → List Bool → (slot n : ℕ) → ℕ
next_to ws waiting slot zero = no_job
next_to ws waiting slot (suc n) = sooner ws waiting slot n (next_to ws waiting slot n)

-- a slot is given to a job, or to none
unfoldable pub give : (slot i : ℕ) → Laid → Laid
give slot i d = cond (eqb i no_job) d (record { waiting = set d.waiting i false; slots = set d.slots i slot })

-- the layout of the first s slots
unfoldable pub laid_to : List Window → List Bool → ℕ → Laid
laid_to ws c zero = record { waiting = c; slots = replicate most_jobs 0 }
laid_to ws c (suc s) = give (suc s) (next_to ws (laid_to ws c s).waiting (suc s) (length ws)) (laid_to ws c s)

unfoldable pub layout : List Window → List Bool → List ℕ
layout ws c = (laid_to ws c slot_count).slots

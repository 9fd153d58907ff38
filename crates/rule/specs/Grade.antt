-- Grades as bits, and the starts of grades. The bit 0 is false, the bit 1 is true.
use Rattle.std.specs.Prelude.{Bool, true, false, ◌&&◌, List, [], ◌∷◌, ℕ, zero, suc, ◌/◌, ◌%◌, ◌^◌, eqb}
use Rattle.std.specs.Bool.{beq}
use Rattle.lists.specs.Select.{select}
use Rattle.rule.specs.Job.{Job}

-- 'written in D bits, highest bit first'
unfoldable pub bits : ℕ → ℕ → List Bool
bits zero g = []
bits (suc d) g = eqb (g / 2 ^ d % 2) 1 ∷ bits d g

-- v starts with the bits u
unfoldable pub starts : List Bool → List Bool → Bool
starts [] v = true
starts (b ∷ u) [] = false
starts (b ∷ u) (c ∷ v) = beq b c && starts u v

-- the job's grade, at depth d, starts with the bits u
unfoldable pub graded : ℕ → List Bool → Job → Bool
graded d u r = starts u (bits d r.grade)

-- 'the racks whose grade starts with the bits so far'
unfoldable pub starting : ℕ → List Bool → List Job → List Job
starting d u A = select (graded d u) A

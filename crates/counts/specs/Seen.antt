-- What is seen of a board, sound or not.
use Rattle.std.specs.Prelude.{ℕ, suc, ◌^◌, Bool, List, [], ◌∷◌, nat_le, nat_lt}
use Rattle.lists.specs.Select.{select, every}
use Rattle.rule.specs.Job.{Job, laxity, in_date}
use Rattle.board.specs.declared.Board.{Board}
use Rattle.board.specs.Limits.{longest_laxity, last_slot, deepest}
use Rattle.board.specs.Held.{slot_of, held}

-- A job that could stand on a sound board of depth d in the slot `now`, whatever its ticket: 'depth is at most 3', 'slot is 1 to 1,000,001',
-- 'present slot ≤ last slot', no more than the longest wait, 'grades are below 2^D'.
unfoldable pub seen_job : (now d : ℕ) → Job → Bool
seen_job now d r =
    every (λ (passed : Bool). passed)
    (nat_le d deepest ∷ nat_le now (suc last_slot) ∷ in_date now r ∷ nat_le (laxity now r) longest_laxity ∷ nat_lt r.grade (2 ^ d) ∷ [])

-- The jobs in the board's places that are seen; of a sound board all.
unfoldable pub seen : Board → List Job
seen b = select (seen_job (slot_of b) b.depth) (held b)

-- What the code's inner functions promise: how soundness is tested, by the board's limits and a walk along its jobs that keeps a little of
-- the jobs seen. Nobody needs to believe this file: that all of it together is the board's soundness is proved (proofs/Parts).
use Rattle.std.specs.Prelude.{Bool, true, cond, ◌&&◌, List, [], ◌∷◌, ℕ, suc, ◌+◌, ◌-◌, ◌^◌, leb, ltb, eqb}
use Rattle.lists.specs.Select.{every}
use Rattle.board.specs.declared.Place.{Place}
use Rattle.board.specs.declared.Board.{Board}
use Rattle.board.specs.Limits.{longest_laxity, most_in_slot, places_held, last_slot, deepest}
use Rattle.board.specs.Held.{slot_of, slot_number}
use Rattle.soundness.specs.declared.Seen.{Seen}

-- the depth, the slot and the count are in their limits
unfoldable pub limit_tests : (depth slot count : ℕ) → List Bool
limit_tests d k n =
    leb d deepest
    ∷ leb 1 k
    ∷ leb k (suc last_slot)
    ∷ leb n places_held
    ∷ []

unfoldable pub in_limits : (depth slot count : ℕ) → Bool
in_limits d k n = every (λ t. t) (limit_tests d k n)

-- before the first job: no ticket, and the first slot
unfoldable pub nothing_seen : Seen
nothing_seen = record { well = true; ticket = 0; admitted = slot_number 1; sharing = 0 }

-- how many jobs in a row, the next one included, share its admitted slot
unfoldable pub sharing_with : Seen → Place → ℕ
sharing_with s x = cond (eqb x.admitted.0 s.admitted.0) (s.sharing + 1) 1

-- from its admitted slot to its last a job has no more slots than the longest laxity
unfoldable pub is_short : Place → Bool
is_short x = ltb (x.last.0 - x.admitted.0) longest_laxity

-- the next job stands well after the jobs seen, can be baked in the slot, and has one of the grades
unfoldable pub next_tests : (slot grades : ℕ) → Seen → Place → List Bool
next_tests k g s x =
    s.well
    ∷ ltb s.ticket x.ticket
    ∷ leb s.admitted.0 x.admitted.0
    ∷ leb (sharing_with s x) most_in_slot
    ∷ leb x.admitted.0 k
    ∷ leb k x.last.0
    ∷ is_short x
    ∷ ltb x.grade g
    ∷ []

unfoldable pub well_with : (slot grades : ℕ) → Seen → Place → Bool
well_with k g s x = every (λ t. t) (next_tests k g s x)

-- what is seen, with the next job
unfoldable pub seen_with : (slot grades : ℕ) → Seen → Place → Seen
seen_with k g s x = record { well = well_with k g s x; ticket = x.ticket; admitted = x.admitted; sharing = sharing_with s x }

-- all is well after the places, and the last ticket does not pass the highest
unfoldable pub all_well : Board → Seen → List Place → Bool
all_well b s [] = s.well && leb s.ticket b.highest
all_well b s (x ∷ l) = all_well b (seen_with (slot_of b) (2 ^ b.depth) s x) l

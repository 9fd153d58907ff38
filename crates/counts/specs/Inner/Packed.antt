-- What is seen of the jobs that arrays hold, by their keys.
use Rattle.std.specs.Prelude.{ℕ, suc, ◌-◌, ◌%◌, ◌^◌, Bool, cond, ◌&&◌, ◌||◌, List, nat_le, nat_lt}
use Rattle.board.specs.Limits.{last_slot, deepest}
use Rattle.board.specs.Tally.{tally_grades}
use Rattle.board.specs.Held.{slot_of}
use Rattle.packing.specs.declared.Head.{Head}
use Rattle.packing.specs.Inner.Packed.{board_in}
use Rattle.counts.specs.Seen.{seen}
use Rattle.counts.specs.Counts.{cells, Counted}

-- how many grades are seen of depth d in the slot `now`
unfoldable pub grades_seen : (now d : ℕ) → ℕ
grades_seen now d = cond (nat_lt deepest d || nat_lt (suc last_slot) now) 0 (2 ^ d)

-- the job with the key k is seen, where `first` is the key of the present slot and grade 0
unfoldable pub key_seen : (first grades : ℕ) → ℕ → Bool
key_seen first grades k = nat_le first k && (nat_lt (k - first) cells && nat_lt (k % tally_grades) grades)

-- t has the counts of the jobs seen of the board that the arrays hold, whatever their tickets are and when they were admitted
abbrev pub CountsPacked : Head → (keys t : List ℕ) → Type 0
CountsPacked h K t = (T A : List ℕ) → Counted (slot_of (board_in h K T A)) (seen (board_in h K T A)) t

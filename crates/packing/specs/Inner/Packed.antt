-- The board that three arrays of numbers hold, with its other numbers beside them.
use Rattle.std.specs.Prelude.{List, [], ◌∷◌, ◌++◌, map, ℕ, zero, suc, ◌+◌, ◌-◌, ◌*◌, ◌^◌, ◌/◌, ◌%◌, min, get_or, take, replicate}
use Rattle.board.specs.declared.Place.{Place}
use Rattle.board.specs.declared.Board.{Board}
use Rattle.board.specs.Limits.{places_held}
use Rattle.board.specs.Tally.{tally_grades}
use Rattle.board.specs.Held.{slot_number, blank}
use Rattle.packing.specs.declared.Head.{Head}
use Rattle.packing.specs.declared.Packed.{Packed}

-- a last slot and a grade in one number; last slots from 2^29 on and grades of no depth begin again at 0
unfoldable pub key_of : (last grade : ℕ) → ℕ
key_of last grade = last % 2 ^ 29 * tally_grades + grade % tally_grades

-- the place of a job with this key
unfoldable pub place_of : (key ticket admitted : ℕ) → Place
place_of k t a = record { ticket = t; admitted = slot_number a; last = slot_number (k / tally_grades); grade = k % tally_grades }

-- the place that the arrays have at i
abbrev pub place_in : (keys tickets admitted : List ℕ) → ℕ → Place
place_in K T A i = place_of (get_or K i 0) (get_or T i 0) (get_or A i 0)

-- the first n places that they have
unfoldable pub places_in : (n : ℕ) (keys tickets admitted : List ℕ) → List Place
places_in zero K T A = []
places_in (suc n) K T A = places_in n K T A ++ (place_in K T A n ∷ [])

-- so many of a board's places are in use, whatever its count is
unfoldable pub in_use : (count : ℕ) → ℕ
in_use count = min count places_held

-- places with blank ones behind them, as many as a board has in all
unfoldable pub filled_up : (n : ℕ) → List Place → List Place
filled_up n ps = ps ++ replicate (places_held - n) blank

-- the board that they hold
unfoldable pub board_in : Head → (keys tickets admitted : List ℕ) → Board
board_in h K T A =
    record { depth = h.depth; slot = h.slot; highest = h.highest; count = h.count; places = filled_up (in_use h.count) (places_in (in_use h.count) K T A) }

abbrev pub board_of : Packed → Board
board_of p = board_in p.head p.keys p.tickets p.admitted

-- a place as the arrays can hold it
unfoldable pub packed : Place → Place
packed x = place_of (key_of x.last.0 x.grade) x.ticket x.admitted.0

-- a board as the arrays can hold it; of a sound board that is all of it (proofs/OnSound)
unfoldable pub packable : Board → Board
packable b =
    record {
      depth = b.depth;
      slot = b.slot;
      highest = b.highest;
      count = b.count;
      places = filled_up (in_use b.count) (map packed (take (in_use b.count) b.places));
    }

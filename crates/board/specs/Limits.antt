-- 'Longest wait [..], most racks admitted in a slot 8, most racks held [..], last slot of a book 1,000,000: these four numbers belong to the board
-- and are written once.' 02, Eight: 'Waits are 1 to 24 now', 'A board has 192 places'. They are the associated constants of `Board`; the function
-- `limits` of src/ proves that these are the same.
use Rattle.std.specs.Prelude.{ℕ}

unfoldable pub longest_laxity : ℕ
longest_laxity = 24

unfoldable pub most_in_slot : ℕ
most_in_slot = 8

unfoldable pub places_held : ℕ
places_held = 192

unfoldable pub last_slot : ℕ
last_slot = 1_000_000

-- 'The depth D is 0 to 3'
unfoldable pub deepest : ℕ
deepest = 3

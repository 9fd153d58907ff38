-- Room for a tally's lines.
use Rattle.std.specs.Prelude.{Bool, ◌&&◌, ℕ, ◌+◌, ◌*◌, leb}
use Rattle.board.specs.Tally.{tally_grades}
use Rattle.printing.specs.Lines.{room}

-- `TALLY_ROOM`: bytes that are enough for the tally
unfoldable pub tally_room : ℕ
unfolding tally_grades room
tally_room = tally_grades * room

unfoldable pub tally_fits : (grades at end : ℕ) → Bool
tally_fits n at end = leb n tally_grades && leb (at + tally_room) end

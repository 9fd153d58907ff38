-- The lines of a page between its heading and its totals.
use Rattle.std.specs.Prelude.{List, ◌++◌, map, ℕ, ◌+◌, ◌-◌, length, replicate}
use Rattle.lines.specs.Bytes.{Bytes}
use Rattle.lines.specs.Sheet.{line_columns, Figures, page_slots, slot_line, blank_line}

-- bytes of a line with its line end
unfoldable pub line_length : ℕ
unfolding line_columns
line_length = line_columns + 1

-- a line for each slot of a page, of spaces where it has none
unfoldable pub slot_lines : List Figures → List Bytes
slot_lines fs = map slot_line fs ++ replicate (page_slots - length fs) blank_line

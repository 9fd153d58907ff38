-- The lines of a list of racks: 02, Ten, 'up to 64 racks, best first, each with first and last slot'. A line is `first,last`; 01's rows 11, 13 and 14 are
-- read as for the board's lines. It has no letter, so there is no row 12, and no board, so there is no row 15.
use Rattle.std.specs.Prelude.{not, List, [], ◌∷◌, eqb, length, Result as Tried}
use Rattle.board.specs.Rows.{Row, ◌if◌, first_given}
use Rattle.board.specs.declared.refusal.Refusal.{Refusal}
use Rattle.lines.specs.Bytes.{Bytes, fields}
use Rattle.lines.specs.Fields.{a_number, value}
use Rattle.lines.specs.Reading.{field, too_long, readable}
use Rattle.fields.specs.Results.{Result, result, answer_as}
use Rattle.matching.specs.declared.Window.{Window}
use Rattle.matching.specs.Windows.{is_window}

-- 'more than 40 bytes, the end of line not counted'; two fields; 'a field [..] is not 1 to 10 decimal digits, or is above 4,294,967,295'
unfoldable pub window_rows : Bytes → List Row
window_rows l =
    11 if too_long l
    ∷ 13 if not (eqb (length (fields l)) 2)
    ∷ 14 if not (readable (a_number ∷ a_number ∷ []) 0 l)
    ∷ []

-- the window that a line has
unfoldable pub window_in : Bytes → Window
window_in l = record { first = record { 0 = value (field 0 l) }; last = record { 0 = value (field 1 l) } }

-- 02, Ten: '19 for a slot outside 1 to 64 or a last slot before the first'
unfoldable pub slot_rows : Bytes → List Row
slot_rows l = 19 if not (is_window (window_in l)) ∷ []

-- what reading a line answers: the number of the first row that is given, or its window
unfoldable pub window_read : Bytes → Result Window
window_read l = result (first_given (window_rows l)) (window_in l)

-- the same of the code's answer
abbrev pub window_result : Tried Window Refusal → Result Window
window_result r = answer_as (λ w. w) r

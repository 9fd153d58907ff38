-- The definition computed on lines: 01, 'Lines', rows 11 to 15 and board 9.
use mathlib.Core.Path.{◌≡◌, refl}
use mathlib.Core.Bool.{true, false}
use mathlib.Core.List.{[], ◌∷◌}
use mathlib.Core.Option.{none, some}
use lib.ListN.{replicate}
use Rattle.lists.specs.Select.{every}
use Rattle.board.specs.Rows.{◌if◌, first_given}
use Rattle.lines.specs.Bytes.{fields, onto_first, comma, letter_A, letter_B, letter_D, letter_Q, letter_W}
use Rattle.lines.specs.Fields.{is_letter, is_number, readable_as, value_as, is_blank, is_digit, value, value_after}
use Rattle.lines.specs.Reading.{open_board, admit_job, close_slot, ask_promise, withdraw_job, forms, form_in, field, form_of, longest_line, too_long, fields_wanted, readable, out_of_turn, form_rows, line_rows, line_number, with_values, request_by, request}
use Rattle.fields.specs.Results.{result}
use Rattle.reading.specs.Answers.{line_result}

examples :
    -- `B` while a board is open
    (line_result true (66 ∷ []) ≡ (0, some close_slot)) ×
    -- `B` while none is
    (line_result false (66 ∷ []) ≡ (15, none)) ×
    -- `B,`: a second field, though blank
    (line_result true (66 ∷ 44 ∷ []) ≡ (13, none)) ×
    -- `Q`: as `B`
    (line_result true (81 ∷ []) ≡ (0, some ask_promise)) ×
    (line_result false (81 ∷ []) ≡ (15, none)) ×
    (line_result true (81 ∷ 44 ∷ []) ≡ (13, none)) ×
    -- `W,7`, while a board is open and while none is; `W,007`: leading zeros are allowed
    (line_result true (87 ∷ 44 ∷ 55 ∷ []) ≡ (0, some (withdraw_job 7))) ×
    (line_result false (87 ∷ 44 ∷ 55 ∷ []) ≡ (15, none)) ×
    (line_result true (87 ∷ 44 ∷ 48 ∷ 48 ∷ 55 ∷ []) ≡ (0, some (withdraw_job 7))) ×
    -- `W` has a field too few, `W,7,` one too many; the ticket may not be blank
    (line_result true (87 ∷ []) ≡ (13, none)) ×
    (line_result true (87 ∷ 44 ∷ 55 ∷ 44 ∷ []) ≡ (13, none)) ×
    (line_result true (87 ∷ 44 ∷ []) ≡ (14, none)) ×
    -- `q`: a small letter
    (line_result true (113 ∷ []) ≡ (12, none)) ×
    -- `D`: one field too few
    (line_result false (68 ∷ []) ≡ (13, none)) ×
    -- `D,01`: leading zeros are allowed
    (line_result false (68 ∷ 44 ∷ 48 ∷ 49 ∷ []) ≡ (0, some (open_board 1))) ×
    -- `D,9`: the depth is read, and row 1 is the board's
    (line_result false (68 ∷ 44 ∷ 57 ∷ []) ≡ (0, some (open_board 9))) ×
    -- `D,9` while a board is open
    (line_result true (68 ∷ 44 ∷ 57 ∷ []) ≡ (15, none)) ×
    -- `D,`: a blank depth, row 14 before row 15
    (line_result true (68 ∷ 44 ∷ []) ≡ (14, none)) ×
    -- `A,1,1,`: a blank grade
    (line_result true (65 ∷ 44 ∷ 49 ∷ 44 ∷ 49 ∷ 44 ∷ []) ≡ (0, some (admit_job 1 1 none))) ×
    -- `A,12,3,4`: the values in their order
    (line_result true (65 ∷ 44 ∷ 49 ∷ 50 ∷ 44 ∷ 51 ∷ 44 ∷ 52 ∷ []) ≡ (0, some (admit_job 12 3 (some 4)))) ×
    -- `A,,1,0`: a blank ticket
    (line_result true (65 ∷ 44 ∷ 44 ∷ 49 ∷ 44 ∷ 48 ∷ []) ≡ (14, none)) ×
    -- `A,1,,0`: a blank laxity
    (line_result true (65 ∷ 44 ∷ 49 ∷ 44 ∷ 44 ∷ 48 ∷ []) ≡ (14, none)) ×
    -- `A,1,1,x`: a grade that is no number
    (line_result true (65 ∷ 44 ∷ 49 ∷ 44 ∷ 49 ∷ 44 ∷ 120 ∷ []) ≡ (14, none)) ×
    -- `A,x`: row 13 before row 14
    (line_result true (65 ∷ 44 ∷ 120 ∷ []) ≡ (13, none)) ×
    -- `A,1,1,0` while no board is open
    (line_result false (65 ∷ 44 ∷ 49 ∷ 44 ∷ 49 ∷ 44 ∷ 48 ∷ []) ≡ (15, none)) ×
    -- an empty line
    (line_result true [] ≡ (12, none)) ×
    -- `a`: a small letter
    (line_result true (97 ∷ []) ≡ (12, none)) ×
    -- `a,1,1`: row 12 before row 13
    (line_result true (97 ∷ 44 ∷ 49 ∷ 44 ∷ 49 ∷ []) ≡ (12, none)) ×
    -- `B\r`: a carriage return is a byte like any other
    (line_result true (66 ∷ 13 ∷ []) ≡ (12, none)) ×
    -- `,B`: a comma first
    (line_result true (44 ∷ 66 ∷ []) ≡ (12, none)) ×
    -- `A,1,1,` and zeros: forty bytes pass row 11, and thirty-four digits fail row 14
    (line_result true (65 ∷ 44 ∷ 49 ∷ 44 ∷ 49 ∷ 44 ∷ replicate 34 48) ≡ (14, none)) ×
    -- one zero more
    (line_result true (65 ∷ 44 ∷ 49 ∷ 44 ∷ 49 ∷ 44 ∷ replicate 35 48) ≡ (11, none)) ×
    -- `D,0000000003`: ten digits
    (line_result false (68 ∷ 44 ∷ 48 ∷ 48 ∷ 48 ∷ 48 ∷ 48 ∷ 48 ∷ 48 ∷ 48 ∷ 48 ∷ 51 ∷ []) ≡ (0, some (open_board 3))) ×
    -- `D,00000000003`: eleven digits
    (line_result false (68 ∷ 44 ∷ 48 ∷ 48 ∷ 48 ∷ 48 ∷ 48 ∷ 48 ∷ 48 ∷ 48 ∷ 48 ∷ 48 ∷ 51 ∷ []) ≡ (14, none)) ×
    -- `D,4294967295`: the greatest number
    (line_result false (68 ∷ 44 ∷ 52 ∷ 50 ∷ 57 ∷ 52 ∷ 57 ∷ 54 ∷ 55 ∷ 50 ∷ 57 ∷ 53 ∷ []) ≡ (0, some (open_board 4_294_967_295))) ×
    -- `D,4294967296`: one more
    (line_result false (68 ∷ 44 ∷ 52 ∷ 50 ∷ 57 ∷ 52 ∷ 57 ∷ 54 ∷ 55 ∷ 50 ∷ 57 ∷ 54 ∷ []) ≡ (14, none)) ×
    -- `D,-1`: a sign
    (line_result false (68 ∷ 44 ∷ 45 ∷ 49 ∷ []) ≡ (14, none)) ×
    -- `D, 1`: a space
    (line_result false (68 ∷ 44 ∷ 32 ∷ 49 ∷ []) ≡ (14, none))
unfolding line_result result line_number line_rows first_given ◌if◌ too_long longest_line form_of form_in forms form_rows fields_wanted readable out_of_turn with_values request_by request field fields onto_first comma letter_A letter_B letter_D letter_Q letter_W is_letter is_number readable_as value_as is_blank is_digit value value_after every
examples = (refl, refl, refl, refl, refl, refl, refl, refl, refl, refl, refl, refl, refl, refl, refl, refl, refl, refl, refl, refl, refl, refl, refl, refl, refl, refl, refl, refl, refl, refl, refl, refl, refl, refl, refl, refl, refl, refl)

-- The forms of a line, one for each letter, and rows 11 to 15, which are read off them. 02, Six: 'Each line letter added here or below joins row 12, has in
-- row 13 the fields shown, and counts as B in 15 unless said otherwise.' So a further letter is one form in `forms`, and a case of `Request` for what it asks.
use Rattle.std.specs.Prelude.{Bool, true, false, not, cond, ◌&&◌, List, [], ◌∷◌, ℕ, suc, ltb, eqb, length, get_or}
use Rattle.std.proofs.Math.Option.{Option, none, some}
use Rattle.board.specs.Rows.{Row, ◌if◌, first_given}
use Rattle.lines.specs.Bytes.{Bytes, fields, letter_A, letter_B, letter_D, letter_Q, letter_W}
use Rattle.lines.specs.Fields.{Kind, a_number, a_grade, readable_as, ReadAs, value_as, is_letter}

-- what a line asks for that none of rows 11 to 15 refuses; a grade is none where it is blank
pub data Request : Type 0 where
  open_board : (depth : ℕ) → Request
  admit_job : (ticket laxity : ℕ) (grade : Option ℕ) → Request
  close_slot : Request
  ask_promise : Request
  withdraw_job : (ticket : ℕ) → Request

-- a request that is still to be given the value of each of these fields
abbrev pub Asks : List Kind → Type 0
Asks [] = Request
Asks (k ∷ ks) = ReadAs k → Asks ks

-- The form of a line: its letter, what its fields after the first are, whether it is for a board that is open (or for none), and what it asks for,
-- which is given the values of these fields in their order.
pub record Form : Type 0 where
  pub letter : ℕ
  pub after : List Kind
  pub for_open : Bool
  pub asks : Asks after

-- '`D,depth` opens, `A,ticket,wait,grade` admits, `B` closes the slot'. 'Fields stand in fixed order.' 02, Six: 'The line `Q`';
-- Seven: '`W,ticket` takes it off'.
unfoldable pub forms : List Form
forms =
    record { letter = letter_D; after = a_number ∷ []; for_open = false; asks = open_board }
    ∷ record { letter = letter_A; after = a_number ∷ a_number ∷ a_grade ∷ []; for_open = true; asks = admit_job }
    ∷ record { letter = letter_B; after = []; for_open = true; asks = close_slot }
    ∷ record { letter = letter_Q; after = []; for_open = true; asks = ask_promise }
    ∷ record { letter = letter_W; after = a_number ∷ []; for_open = true; asks = withdraw_job }
    ∷ []

-- the form with this first field: none where it is no letter of a form
unfoldable pub form_in : List Form → Bytes → Option Form
form_in [] f = none
form_in (r ∷ rs) f = cond (is_letter r.letter f) (some r) (form_in rs f)

-- the n-th field of a line, from 0
unfoldable pub field : ℕ → Bytes → Bytes
field n l = get_or (fields l) n []

unfoldable pub form_of : Bytes → Option Form
form_of l = form_in forms (field 0 l)

-- Row 11: 'more than 40 bytes, the end of line not counted'. In src/ of crate reading this is the constant `LONGEST_LINE`; the function `limits` there
-- proves that the two are the same.
unfoldable pub longest_line : ℕ
longest_line = 40

unfoldable pub too_long : Bytes → Bool
too_long l = ltb longest_line (length l)

-- row 13: 'fields: D has 2, A 4, B 1'; those of a further letter are 'the fields shown'
unfoldable pub fields_wanted : Form → ℕ
fields_wanted r = suc (length r.after)

-- Row 14: 'a field after the first is not 1 to 10 decimal digits, or is above 4,294,967,295; an A line's grade may be blank'. 'A line that passes
-- row 13 is read field by field': from the n-th on, the fields are to be of these kinds.
unfoldable pub readable : List Kind → ℕ → Bytes → Bool
readable [] n l = true
readable (k ∷ ks) n l = readable_as k (field n l) && readable ks (suc n) l

-- row 15: 'D while a board is open; A or B while none is'; a further letter 'counts as B'
unfoldable pub out_of_turn : (for_open opened : Bool) → Bool
out_of_turn false opened = opened
out_of_turn true opened = not opened

-- row 12: 'first field is not A, B or D', nor one that 'joins row 12'; past it rows 13 to 15 of the line's form
unfoldable pub form_rows : Option Form → Bool → Bytes → List Row
form_rows none opened l = 12 if true ∷ []
form_rows (some r) opened l =
    13 if not (eqb (length (fields l)) (fields_wanted r))
    ∷ 14 if not (readable r.after 1 l)
    ∷ 15 if out_of_turn r.for_open opened
    ∷ []

-- rows 11 to 15
unfoldable pub line_rows : Bool → Bytes → List Row
line_rows opened l = 11 if too_long l ∷ form_rows (form_of l) opened l

unfoldable pub line_number : Bool → Bytes → ℕ
line_number opened l = first_given (line_rows opened l)

-- a request with the values of these fields, from the n-th on
unfoldable pub with_values : (ks : List Kind) → Asks ks → ℕ → Bytes → Request
with_values [] q n l = q
with_values (k ∷ ks) q n l = with_values ks (q (value_as k (field n l))) (suc n) l

-- what a line of this form asks for; row 12 refuses a line of none, so the first case is never used
unfoldable pub request_by : Option Form → Bytes → Request
request_by none l = close_slot
request_by (some r) l = with_values r.after r.asks 1 l

unfoldable pub request : Bytes → Request
request l = request_by (form_of l) l

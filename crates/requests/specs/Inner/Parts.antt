-- What the readers of a line's fields answer. Only promises of code cite these.
use Rattle.std.specs.Prelude.{◌≡◌, Bool, not, List, [], ◌∷◌, ℕ, eqb, length, Result as Tried, Ok, Err, IsOkAnd, MatchResult}
use Rattle.std.proofs.Math.Option.{Option, none, some}
use Rattle.board.specs.Rows.{◌if◌}
use Rattle.board.specs.declared.refusal.Refusal.{Refusal}
use Rattle.board.specs.declared.refusal.Refusal.TheVariants.{NotANumber}
use Rattle.lines.specs.Bytes.{Bytes, fields}
use Rattle.lines.specs.Fields.{Kind, a_number}
use Rattle.lines.specs.Reading.{field, Request, Asks, Form, forms, form_in, fields_wanted, readable, with_values, request_by}
use Rattle.fields.specs.Results.{Result, unless}
use Rattle.fields.specs.Numbers.{field_result, field_read}
use Rattle.fields.specs.declared.grades.Grade.{Grade}
use Rattle.requests.specs.declared.Asked.{Asked}
use Rattle.requests.specs.declared.Asked.TheVariants.{Admit}
use Rattle.requests.specs.declared.Read.{Read}
use Rattle.requests.specs.Answers.{asked_result}

-- row 14 of fields of these kinds, from the n-th on, or the request with their values
unfoldable pub fields_read : (ks : List Kind) → Asks ks → ℕ → Bytes → Result Request
fields_read ks q n l = unless (14 if not (readable ks n l)) (with_values ks q n l)

-- whether a line has so many fields as it should have, and what they ask for
unfoldable pub read_result : Read → Bool × Result Request
read_result r = (r.whole, asked_result r.asked)

-- the same of a line of this form; one of none is read as a line of one field
unfoldable pub form_read : Option Form → Bytes → Bool × Result Request
form_read none l = (eqb (length (fields l)) 1, (0, some (request_by none l)))
form_read (some r) l = (eqb (length (fields l)) (fields_wanted r), fields_read r.after r.asks 1 l)

-- the same of a line that starts with this letter
unfoldable pub after_letter : ℕ → Bytes → Bool × Result Request
after_letter c l = form_read (form_in forms (c ∷ [])) l

-- a line of one field behind its letter, a number: what `asks` makes of it, or the row that refuses it
pub record OneNumber (asks : ℕ → Asked → Type 0) (l : Bytes) (r : Read) : Type 0 where
  pub whole : r.whole ≡ eqb (length (fields l)) 2
  pub number : Tried ℕ Refusal
  pub is_read : field_result number ≡ field_read a_number (field 1 l)
  pub asked : MatchResult number (λ n. IsOkAnd r.asked (asks n)) (λ e. r.asked ≡ Err e)

-- the values of a line that admits, or row 14 from the first that is refused
abbrev pub admits : Tried ℕ Refusal → Tried ℕ Refusal → Tried Grade Refusal → Tried Asked Refusal
admits (Err e) w g = Err NotANumber
admits (Ok t) (Err e) g = Err NotANumber
admits (Ok t) (Ok w) (Err e) = Err NotANumber
admits (Ok t) (Ok w) (Ok g) = Ok (Admit t (record { 0 = w }) g)

-- What a first field answers. Only promises inside this crate cite these; that of the whole is in Answers.
use Rattle.std.specs.Prelude.{Bool, ℕ, Option as Perhaps, Some, None}
use Rattle.std.proofs.Math.Option.{Option, none, some}
use Rattle.lines.specs.Bytes.{Bytes}
use Rattle.lines.specs.Reading.{Form, forms, form_in}
use Rattle.fields.specs.Results.{Result}

-- a first field's number and values: its letter, and whether the line is for a board that is open
abbrev pub letter_result : Perhaps (ℕ × Bool) → Result (ℕ × Bool)
letter_result (Some c) = (0, some c)
letter_result None = (12, none)

-- row 12, or the same of a form
unfoldable pub form_result : Option Form → Result (ℕ × Bool)
form_result none = (12, none)
form_result (some r) = (0, some (r.letter, r.for_open))

-- the same of a first field
unfoldable pub letter_read : Bytes → Result (ℕ × Bool)
letter_read f = form_result (form_in forms f)

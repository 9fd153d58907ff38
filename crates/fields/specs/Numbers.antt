-- What reading a field answers.
use Rattle.std.specs.Prelude.{not, ℕ, Result as Tried}
use Rattle.board.specs.Rows.{◌if◌}
use Rattle.board.specs.declared.refusal.Refusal.{Refusal}
use Rattle.lines.specs.Bytes.{Bytes}
use Rattle.lines.specs.Fields.{Kind, readable_as, ReadAs, value_as}
use Rattle.fields.specs.Results.{Result, unless, answer_as}

-- a field's number and value
abbrev pub field_result : Tried ℕ Refusal → Result ℕ
field_result r = answer_as (λ n. n) r

-- row 14 of a field of this kind, or what it is read as
unfoldable pub field_read : (k : Kind) → Bytes → Result (ReadAs k)
field_read k f = unless (14 if not (readable_as k f)) (value_as k f)

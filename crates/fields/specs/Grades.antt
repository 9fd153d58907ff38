-- What reading a grade answers.
use Rattle.std.specs.Prelude.{ℕ, Result as Tried}
use Rattle.std.proofs.Math.Option.{Option, none, some}
use Rattle.board.specs.declared.refusal.Refusal.{Refusal}
use Rattle.fields.specs.declared.grades.Grade.{Grade}
use Rattle.fields.specs.declared.grades.Grade.TheVariants.{Number, Blank}
use Rattle.fields.specs.Results.{Result, answer_as}

-- a grade as the definitions read it
unfoldable pub grade_of : Grade → Option ℕ
grade_of (Number n) = some n
grade_of Blank = none

-- a grade field's number and value
abbrev pub grade_result : Tried Grade Refusal → Result (Option ℕ)
grade_result r = answer_as grade_of r

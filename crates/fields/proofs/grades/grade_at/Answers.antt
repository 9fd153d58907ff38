-- `grade_at` answers a blank field's grade, or as `number_at` does.
use mathlib.Core.Path.{◌≡◌, sym, ap, ◌∙◌}
use native.Mathlib.Omega.{arith}
use lib.ListN.{drop}
use Rattle.lines.specs.Fields.{a_number, a_grade}
use Rattle.lines.specs.Reading.{field}
use Rattle.fields.specs.Numbers.{field_result, field_read}
use Rattle.fields.specs.Grades.{grade_of}
use Rattle.fields.proofs.Blank.{as_grade, blank, not_blank, row_14}
use Rattle.fields.proofs.Commas.{first_length}
use Rattle.fields.proofs.grades.grade_at.Goals as goal
use Rattle.fields.proofs.grades.grade_at.Goals.{Else-bytes-eq0}

-- a field that does not end where it begins is not blank, and has the answer of a number
as_number : (c : Else-bytes-eq0) → let f = field 0 (drop c.args.from c.args.line.now) in as_grade (field_read a_number f) ≡ field_read a_grade f
as_number c =
    let s = c.args in
    not_blank _ (λ k. c.if-bytes-eq0.false (omega (arith, c.number_at-read.ensures.0, first_length (drop s.from s.line.now))))

pub returns-then-bytes-eq0 : goal.returns-then-bytes-eq0
returns-then-bytes-eq0 c =
    let s = c.args in
    (c.number_at-read.ensures.0, blank _ (omega (arith, first_length (drop s.from s.line.now))))

pub returns-in_default : goal.returns-in_default
returns-in_default c =
    let n = c.number_at-read.ensures in
    (n.0, row_14 _ _ (sym (ap field_result c.in_default.is) ∙ n.1) ∙ as_number (goal.at.returns-in_default c).Else-bytes-eq0)

pub returns : goal.returns
unfolding grade_of
returns c =
    let n = c.number_at-read.ensures in
    (n.0, ap as_grade (sym (ap field_result c.in-Ok.is) ∙ n.1) ∙ as_number (goal.at.returns c).Else-bytes-eq0)

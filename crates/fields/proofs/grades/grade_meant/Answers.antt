-- `grade_meant` answers the number, or one less than there are grades.
use mathlib.Core.Path.{sym, ap, ◌∙◌}
use Prim.Native.Nat.{◌-◌, min}
use borrow.Author.Rules.{rules}
use Rattle.board.specs.Limits.{deepest}
use Rattle.lines.specs.Fields.{grade_meant}
use Rattle.fields.specs.declared.grades.Grade.{Grade}
use Rattle.fields.specs.Grades.{grade_of}
use Rattle.fields.proofs.grades.grade_meant.Goals as goal

pub returns-in-Number : goal.returns-in-Number
unfolding grade_meant grade_of
returns-in-Number c = search rules

pub returns-in-Blank : goal.returns-in-Blank
unfolding grade_meant grade_of
returns-in-Blank c =
    let d = min c.args.depth deepest in
    ap (λ n. n - 1) c.grade_count.ensures ∙ ap (λ (g : Grade). grade_meant d (grade_of g)) (sym c.in-Blank.is)

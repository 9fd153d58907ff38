-- A law for each of the three answers.
use mathlib.Core.Path.{sym}
use native.Mathlib.Omega.{arith}
use Rattle.board.specs.Tally.{tally_grades, tally_most, cell, count_at}
use Rattle.board.proofs.Tallies.CountAt.{taken}
use Rattle.board.proofs.Tallies.Kinds.{kind_below}
use Rattle.tally.proofs.Answers.{no_such_grade, count_full}
use Rattle.tally.proofs.take_in.Goals as goal

pub returns-then-grade-ge-GRADES : goal.returns-then-grade-ge-GRADES
unfolding tally_grades
returns-then-grade-ge-GRADES c = let a = c.args in no_such_grade a.tally.now _ a.grade (kind_below a.kind) (omega arith)

pub returns-then-n-ge-MOST : goal.returns-then-n-ge-MOST
unfolding count_at cell tally_grades tally_most
returns-then-n-ge-MOST c =
    let a = c.args in
    rw (← c.number.ensures) (count_full a.tally.now c.number.result a.grade (record { kind = omega (arith, kind_below a.kind); grade = omega arith }) c.if-n-ge-MOST.true)

pub returns : goal.returns
unfolding count_at cell tally_grades tally_most
returns c =
    let a = c.args in
    rw (← c.number.ensures) (sym (taken a.tally.now c.number.result a.grade (record { kind = omega (arith, kind_below a.kind); grade = omega arith }) (omega arith)))

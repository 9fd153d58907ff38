-- `read_admit` answers for the three fields, each of which begins behind the comma of the one before.
use mathlib.Core.Path.{sym, ap, ◌∙◌}
use Prim.Native.Nat.{◌+◌, ◌^◌, ◌<◌}
use native.Mathlib.Omega.{arith}
use borrow.Author.Rules.{rules}
use lib.ListN.{length}
use Rattle.lines.specs.Bytes.{letter_A, letter_D}
use Rattle.lines.specs.Fields.{a_number, a_grade, is_letter}
use Rattle.lines.specs.Reading.{forms, form_in, fields_wanted}
use Rattle.fields.specs.Numbers.{field_read}
use Rattle.fields.proofs.Ends.{end_within}
use Rattle.requests.specs.Answers.{asked_result}
use Rattle.requests.specs.Inner.Parts.{read_result, form_read, after_letter}
use Rattle.requests.proofs.FieldByField.{three_values}
use Rattle.requests.proofs.Places.{both, behind_letter, second, third, four}
use Rattle.requests.proofs.read_admit.Goals as goal
use Rattle.requests.proofs.read_admit.Goals.{After-number_at-first}

-- no place is far
near : (c : After-number_at-first) → c.number_at-first.result.end < 2 ^ 63 + 2
near c =
    let short : length c.args.line.now < 2 ^ 63 = search rules in
    omega (arith, short, c.number_at-first.ensures.0, end_within c.args.line.now 2)

pub overflow_add-first : goal.overflow_add-first
overflow_add-first c = omega (arith, near (goal.at.overflow_add-first c).After-number_at-first)

pub overflow_add-second : goal.overflow_add-second
overflow_add-second c =
    let a = (goal.at.overflow_add-second c).After-number_at-first in
    let short : length c.args.line.now < 2 ^ 63 = search rules in
    omega (arith, near a, short, c.number_at-second.ensures.0, end_within c.args.line.now (c.number_at-first.result.end + 1))

pub returns : goal.returns
unfolding read_result after_letter form_read form_in forms fields_wanted is_letter letter_A letter_D
returns c h =
    let line = c.args.line.now in
    let a = c.number_at-first.ensures in
    let b = c.number_at-second.ensures in
    let d = c.grade_at-third.ensures in
    let values =
    three_values line _ _ _
    (a.1 ∙ ap (field_read a_number) (sym (behind_letter line h 0)))
    (b.1 ∙ ap (field_read a_number) (sym (second line h _ a.0)))
    (d.1 ∙ ap (field_read a_grade) (sym (third line h _ a.0 _ b.0))) in
    both _ _ _ _ (four line h _ a.0 _ b.0 _ d.0) (ap asked_result c.admit.ensures ∙ values)

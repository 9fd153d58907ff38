-- Each way out has passed the rows before it.
use mathlib.Core.Path.{refl, sym, ap, ◌∙◌}
use mathlib.Core.List.{List}
use Prim.Native.Nat.{ℕ, ◌≤◌}
use native.Mathlib.Omega.{arith}
use lib.ListN.{length}
use Rattle.lines.specs.Reading.{longest_line}
use Rattle.lines.specs.Fields.{a_number}
use Rattle.fields.specs.Numbers.{field_result, field_read}
use Rattle.worklist.proofs.Reading.{row_11, row_13, first_within, second_field, first_bad, second_bad, both_good}
use Rattle.worklist.proofs.read_window.Goals as goal

pub returns-then-line-gt-LONGEST_LINE : goal.returns-then-line-gt-LONGEST_LINE
unfolding longest_line
returns-then-line-gt-LONGEST_LINE c = row_11 _ (omega arith)

pub overflow_add-a : goal.overflow_add-a
unfolding longest_line
overflow_add-a c = let l = c.args.line.now in omega (arith, first_within l (omega arith) _ _ c.number_at-a.ensures.0 refl)

-- the line is not too long, and its second field is what the second reading reads
short : (l : List ℕ) → length l ≤ 40 → length l ≤ longest_line
unfolding longest_line
short l h = h

pub returns-then-b-line : goal.returns-then-b-line
returns-then-b-line c =
    let l = c.args.line.now in
    row_13 l (short l (omega arith)) _ _ c.number_at-a.ensures.0 c.number_at-b.ensures.0 c.if-b-line.true

pub returns-in_default : goal.returns-in_default
returns-in_default c =
    let l = c.args.line.now in
    first_bad l (short l (omega arith)) _ _ c.number_at-a.ensures.0 c.number_at-b.ensures.0 c.if-b-line.false
    _ (sym (ap field_result c.in_default.is) ∙ c.number_at-a.ensures.1)

pub returns-in_default-number : goal.returns-in_default-number
returns-in_default-number c =
    let l = c.args.line.now in
    let s = short l (omega arith) in
    let a = c.number_at-a.ensures in
    let b = c.number_at-b.ensures in
    second_bad l s _ _ a.0 b.0 c.if-b-line.false
    _ (sym (ap field_result c.in-Ok.is) ∙ a.1)
    _ (sym (ap field_result c.in_default-number.is) ∙ b.1 ∙ ap (field_read a_number) (sym (second_field l s _ _ a.0 b.0)))

pub returns : goal.returns
returns c =
    let l = c.args.line.now in
    let s = short l (omega arith) in
    let a = c.number_at-a.ensures in
    let b = c.number_at-b.ensures in
    both_good l s _ _ a.0 b.0 c.if-b-line.false
    _ (sym (ap field_result c.in-Ok.is) ∙ a.1)
    _ (sym (ap field_result c.in-Ok-number.is) ∙ b.1 ∙ ap (field_read a_number) (sym (second_field l s _ _ a.0 b.0)))

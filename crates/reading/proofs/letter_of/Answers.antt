-- `letter_of` answers row 12, or the letter and what its form has.
use mathlib.Core.Path.{◌≡◌}
use native.Mathlib.Omega.{arith}
use mathlib.Core.Bool.{false}
use borrow.Author.Rules.{rules}
use lib.Dec.{eqb}
use lib.ListN.{length, get_or}
use Rattle.lists.proofs.Before.{before_within}
use Rattle.lines.specs.Bytes.{comma, letter_A, letter_B, letter_D, letter_Q, letter_W}
use Rattle.lines.specs.Fields.{is_letter}
use Rattle.lines.specs.Reading.{forms, form_in, field}
use Rattle.fields.proofs.Commas.{first_length}
use Rattle.reading.specs.Inner.Parts.{form_result, letter_read}
use Rattle.reading.proofs.Letters.{first_byte, other_length}
use Rattle.reading.proofs.letter_of.Goals as goal
use Rattle.reading.proofs.letter_of.Goals.{Else-next_byte-ne-LETTER_END}

pub returns-then-next_byte-ne-LETTER_END : goal.returns-then-next_byte-ne-LETTER_END
unfolding comma
returns-then-next_byte-ne-LETTER_END c =
    let line = c.args.line.now in
    other_length _ (λ h. c.if-next_byte-ne-LETTER_END.true (omega (arith, c.next_byte.ensures, first_length line)))

pub bounds-line-0 : goal.bounds-line-0
unfolding comma
bounds-line-0 c =
    let line = c.args.line.now in
    omega (arith, c.next_byte.ensures, before_within comma line)

-- past its test the first field has one byte
one : (c : Else-next_byte-ne-LETTER_END) → length (field 0 c.args.line.now) ≡ 1
unfolding comma
one c = omega (arith, c.next_byte.ensures, first_length c.args.line.now)

pub returns-in-68 : goal.returns-in-68
unfolding letter_read form_result form_in forms is_letter letter_A letter_B letter_D letter_Q letter_W
returns-in-68 c =
    let k = one (goal.at.returns-in-68 c).Else-next_byte-ne-LETTER_END in
    simp (first_byte c.args.line.now k, c.in-68.is)

pub returns-in-65 : goal.returns-in-65
unfolding letter_read form_result form_in forms is_letter letter_A letter_B letter_D letter_Q letter_W
returns-in-65 c =
    let k = one (goal.at.returns-in-65 c).Else-next_byte-ne-LETTER_END in
    simp (first_byte c.args.line.now k, c.in-65.is)

pub returns-in-66 : goal.returns-in-66
unfolding letter_read form_result form_in forms is_letter letter_A letter_B letter_D letter_Q letter_W
returns-in-66 c =
    let k = one (goal.at.returns-in-66 c).Else-next_byte-ne-LETTER_END in
    simp (first_byte c.args.line.now k, c.in-66.is)

pub returns-in-81 : goal.returns-in-81
unfolding letter_read form_result form_in forms is_letter letter_A letter_B letter_D letter_Q letter_W
returns-in-81 c =
    let k = one (goal.at.returns-in-81 c).Else-next_byte-ne-LETTER_END in
    simp (first_byte c.args.line.now k, c.in-81.is)

pub returns-in-87 : goal.returns-in-87
unfolding letter_read form_result form_in forms is_letter letter_A letter_B letter_D letter_Q letter_W
returns-in-87 c =
    let k = one (goal.at.returns-in-87 c).Else-next_byte-ne-LETTER_END in
    simp (first_byte c.args.line.now k, c.in-87.is)

pub returns-in_default : goal.returns-in_default
unfolding letter_read form_result form_in forms is_letter letter_A letter_B letter_D letter_Q letter_W
returns-in_default c =
    let k = one (goal.at.returns-in_default c).Else-next_byte-ne-LETTER_END in
    let b = get_or c.args.line.now 0 0 in
    let not_d : eqb b 68 ≡ false = search rules in
    let not_a : eqb b 65 ≡ false = search rules in
    let not_b : eqb b 66 ≡ false = search rules in
    let not_q : eqb b 81 ≡ false = search rules in
    let not_w : eqb b 87 ≡ false = search rules in
    simp (first_byte c.args.line.now k, not_d, not_a, not_b, not_q, not_w)

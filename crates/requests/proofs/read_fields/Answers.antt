-- `read_fields` answers as the reader of the letter's line does.
use mathlib.Core.Bool.{Bool}
use mathlib.Core.Path.{refl, ap, ◌∙◌}
use borrow.Author.Rules.{rules}
use Rattle.lines.specs.Bytes.{letter_A, letter_B, letter_D, letter_Q, letter_W}
use Rattle.lines.specs.Fields.{is_letter}
use Rattle.lines.specs.Reading.{Request, forms, form_in, fields_wanted, open_board, withdraw_job}
use Rattle.fields.specs.Results.{Result}
use Rattle.requests.specs.Inner.Parts.{read_result, form_read, after_letter}
use Rattle.requests.proofs.Alone.{promises, closes}
use Rattle.requests.proofs.FieldByField.{one_number}
use Rattle.requests.proofs.Places.{both, one, two}
use Rattle.requests.proofs.read_fields.Goals as goal

pub returns-in-68 : goal.returns-in-68
unfolding read_result after_letter form_read form_in forms fields_wanted is_letter letter_D
returns-in-68 c h =
    let k = c.read_number.ensures h in
    rw c.in-68.is (both _ _ _ _ k.whole (one_number _ open_board _ _ k.is_read k.asked (λ x a e. search rules)))

pub returns-in-65 : goal.returns-in-65
unfolding letter_A
returns-in-65 c h = cc (c.read_admit.ensures h)

-- whether a line W or Q has its fields and no other follows from what the reader says, and from where they end
pub returns-in-87 : goal.returns-in-87
unfolding read_result after_letter form_read form_in forms fields_wanted is_letter letter_A letter_B letter_D letter_Q letter_W
returns-in-87 c h =
    let k = c.read_number-in-87.ensures h in
    let end = two c.args.line.now h _ refl in
    rw c.in-87.is (both _ _ _ _ (cc) (one_number _ withdraw_job _ _ k.is_read k.asked (λ x a e. search rules)))

pub returns-in-81 : goal.returns-in-81
unfolding read_result letter_Q
returns-in-81 c h =
    let k = c.read_alone.ensures h in
    let whole = ap (λ (r : Bool × Result Request). r.0) k in
    let end = one c.args.line.now h in
    rw c.in-81.is (both _ _ _ _ (cc) (ap (λ (r : Bool × Result Request). r.1) k) ∙ promises _)

pub returns-in_default : goal.returns-in_default
unfolding letter_A letter_D letter_Q letter_W
returns-in_default c h = c.read_alone-in_default.ensures h ∙ closes _ _ (search rules) (search rules) (search rules) (search rules)

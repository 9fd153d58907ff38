-- `read_line` answers the first row that is given, or what the line asks for: each way out has passed the rows before it.
use mathlib.Core.Path.{◌≡◌, sym, ap, ◌∙◌}
use mathlib.Core.Option.{some}
use native.Mathlib.Omega.{arith}
use borrow.Author.Rules.{rules}
use Rattle.std.specs.Prelude.{Err}
use Rattle.lines.specs.Reading.{field, longest_line}
use Rattle.reading.specs.Inner.Parts.{letter_result, letter_read}
use Rattle.reading.proofs.Letters.{letter_alone, no_letter}
use Rattle.reading.proofs.LineRows.{row_11, row_12, row_13, row_14, row_15, through}
use Rattle.reading.proofs.read_line.Goals as goal
use Rattle.reading.proofs.read_line.Goals.{In_ok-letter}

-- what the letter comes from
known : (c : In_ok-letter) → (0, some (c.in_ok-letter.letter, c.in_ok-letter.for_open)) ≡ letter_read (field 0 c.args.line.now)
known c = sym (ap letter_result c.in_ok-letter.ensures.ok_part) ∙ c.letter_of.ensures

pub returns-then-line-gt-LONGEST_LINE : goal.returns-then-line-gt-LONGEST_LINE
unfolding longest_line
returns-then-line-gt-LONGEST_LINE c = row_11 _ _ (omega arith)

pub returns-in_err-letter : goal.returns-in_err-letter
unfolding longest_line
returns-in_err-letter c =
    let e : c.from_residual.result ≡ Err c.in_err-letter.field-0.0 = search rules in
    let n = no_letter c.letter_of.result (sym c.ok_or.ensures.value ∙ c.in_err-letter.was) in
    rw (e, n.1) (row_12 _ _ (omega arith) (sym (ap letter_result n.0) ∙ c.letter_of.ensures))

pub returns-then-not-read : goal.returns-then-not-read
unfolding longest_line
returns-then-not-read c =
    let k = known (goal.at.returns-then-not-read c).In_ok-letter in
    row_13 _ _ (omega arith) _ _ k c.read_fields-read.result (c.read_fields-read.ensures (letter_alone _ _ _ k)) (search rules)

pub returns-in_err-asked : goal.returns-in_err-asked
unfolding longest_line
returns-in_err-asked c =
    let k = known (goal.at.returns-in_err-asked c).In_ok-letter in
    let e : c.from_residual-in_err-asked.result ≡ Err c.in_err-asked.field-0.0 = search rules in
    rw e (row_14 _ _ (omega arith) _ _ k c.read_fields-read.result (c.read_fields-read.ensures (letter_alone _ _ _ k)) (search rules) _ c.in_err-asked.was)

pub returns-then-opened-for_open : goal.returns-then-opened-for_open
unfolding longest_line
returns-then-opened-for_open c =
    let k = known (goal.at.returns-then-opened-for_open c).In_ok-letter in
    row_15 _ _ (omega arith) _ _ k c.read_fields-read.result (c.read_fields-read.ensures (letter_alone _ _ _ k)) (search rules) _ c.in_ok-asked.was c.if-opened-for_open.true

pub returns : goal.returns
unfolding longest_line
returns c =
    let k = known (goal.at.returns c).In_ok-letter in
    through _ _ (omega arith) _ _ k c.read_fields-read.result (c.read_fields-read.ensures (letter_alone _ _ _ k)) (search rules) _ c.in_ok-asked.was c.if-opened-for_open.false

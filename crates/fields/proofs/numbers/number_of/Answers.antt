-- `number_of` answers the number of a field's bytes: each way out has passed the tests before it.
use native.Mathlib.Omega.{arith}
use borrow.Author.Rules.{rules}
use Rattle.lines.specs.Fields.{is_digit}
use Rattle.fields.proofs.Digits.{none_passed, one_more, no_digit, all_digits, all_worth, too_short, too_long, not_digits, by_value}
use Rattle.fields.proofs.numbers.number_of.Goals as goal

pub returns-then-digits-lt1 : goal.returns-then-digits-lt1
returns-then-digits-lt1 c = too_short _ c.if-digits-lt1.true

pub returns-then-digits-gt10 : goal.returns-then-digits-gt10
returns-then-digits-gt10 c = too_long _ c.if-digits-gt10.true

pub loop-b-init : goal.loop-b-init
loop-b-init c = none_passed _

pub returns-then-not-digit : goal.returns-then-not-digit
unfolding is_digit
returns-then-not-digit c = not_digits _ (no_digit _ _ _ c.loop-b.invariant c.loop-b-test.true (search rules))

pub loop-b-preserved : goal.loop-b-preserved
unfolding is_digit
loop-b-preserved c = one_more _ _ _ c.loop-b.invariant c.loop-b-test.true (search rules)

pub returns : goal.returns
returns c =
    let i = c.loop-b.invariant in
    let all = c.loop-b-test.false in
    by_value _ (omega arith) (omega arith) (all_digits _ _ _ i all) _ (all_worth _ _ _ i all) _ _ c.try_from.ensures c.map_err.ensures.cases (λ e n k. search rules)

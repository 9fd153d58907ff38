-- `digit_count`: the digits counted and those of what is left are one more than the digits of n. The measure is what is left.
use Prim.Native.Nat.{◌/◌}
use native.Mathlib.Omega.{arith}
use Rattle.lines.proofs.Decimals.{length_one, length_more, some_digit}
use Rattle.printing.specs.Lines.{line_digits}
use Rattle.printing.proofs.Decimals.{few_digits, length_four_more}
use Rattle.printing.proofs.digit_count.Goals as goal

pub loop-left-init : goal.loop-left-init
loop-left-init c = (omega arith, few_digits c.args.n c.ranges.n.fits)

pub overflow_add-count : goal.overflow_add-count
unfolding line_digits
overflow_add-count c = omega (arith, some_digit c.loop-left.left)

pub loop-left-smaller : goal.loop-left-smaller
loop-left-smaller c = omega arith

pub loop-left-preserved : goal.loop-left-preserved
loop-left-preserved c = omega (arith, length_four_more c.loop-left.left (omega arith))

pub returns-then-left-lt10 : goal.returns-then-left-lt10
returns-then-left-lt10 c = omega (arith, length_one c.loop-left.left (omega arith))

pub overflow_add-result : goal.overflow_add-result
unfolding line_digits
overflow_add-result c = omega (arith, some_digit c.loop-left.left)

pub returns-then-left-lt100 : goal.returns-then-left-lt100
returns-then-left-lt100 c =
    let n = c.loop-left.left in
    omega (arith, length_more n (omega arith), length_one (n / 10) (omega arith))

pub overflow_add-result-then-left-lt1000 : goal.overflow_add-result-then-left-lt1000
unfolding line_digits
overflow_add-result-then-left-lt1000 c = omega (arith, some_digit c.loop-left.left)

pub returns-then-left-lt1000 : goal.returns-then-left-lt1000
returns-then-left-lt1000 c =
    let n = c.loop-left.left in
    omega (arith, length_more n (omega arith), length_more (n / 10) (omega arith), length_one (n / 10 / 10) (omega arith))

pub overflow_add-result-2 : goal.overflow_add-result-2
unfolding line_digits
overflow_add-result-2 c = omega (arith, some_digit c.loop-left.left)

pub returns : goal.returns
returns c =
    let n = c.loop-left.left in
    omega
    (arith, length_more n (omega arith), length_more (n / 10) (omega arith), length_more (n / 10 / 10) (omega arith), length_one (n / 10 / 10 / 10) (omega arith))

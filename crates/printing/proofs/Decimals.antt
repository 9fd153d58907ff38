-- A number's digits two and four at a time, and how many there are.
use mathlib.Core.List.{[], ◌∷◌, ◌++◌, append_assoc}
use mathlib.Core.Path.{◌≡◌, ap, ◌∙◌}
use Prim.Native.Nat.{ℕ, ◌+◌, ◌-◌, ◌/◌, ◌%◌, ◌^◌, ◌≤◌, ◌<◌}
use native.Mathlib.Omega.{arith}
use lib.ListN.{length, length-append}
use Rattle.lines.specs.Bytes.{Bytes}
use Rattle.lines.specs.Printing.{decimal}
use Rattle.lines.proofs.Decimals.{at_most, decimal_one, decimal_more}
use Rattle.printing.specs.Lines.{line_digits}

-- no more than a line has room for
pub few_digits : (n : ℕ) → n < 2 ^ 64 → length (decimal n) ≤ line_digits
unfolding line_digits
few_digits n h = at_most (line_digits - 1) n (omega arith)

-- the digits of a number below a hundred, if they are two
abbrev pub pair : ℕ → Bytes
pair n = (48 + n / 10) ∷ (48 + n % 10) ∷ []

pub decimal_two : (n : ℕ) → 10 ≤ n → n < 100 → decimal n ≡ pair n
decimal_two n h k = rw (decimal_more n h, decimal_one (n / 10) (omega arith))

-- any greater number ends with those of what a hundred leaves of it
pub decimal_two_more : (n : ℕ) → 100 ≤ n → decimal n ≡ decimal (n / 100) ++ pair (n % 100)
decimal_two_more n h =
    let e : n / 10 / 10 ≡ n / 100 = omega arith in
    let tens : n / 10 % 10 ≡ n % 100 / 10 = omega arith in
    let ones : n % 10 ≡ n % 100 % 10 = omega arith in
    rw (decimal_more n (omega arith), decimal_more (n / 10) (omega arith), append_assoc, e, tens, ones)

pub length_two_more : (n : ℕ) → 100 ≤ n → length (decimal n) ≡ length (decimal (n / 100)) + 2
length_two_more n h = ap length (decimal_two_more n h) ∙ length-append (decimal (n / 100)) (pair (n % 100))

pub length_four_more : (n : ℕ) → 10000 ≤ n → length (decimal n) ≡ length (decimal (n / 10000)) + 4
length_four_more n h =
    let e : n / 100 / 100 ≡ n / 10000 = omega arith in
    omega (arith, length_two_more n (omega arith), rw e at (length_two_more (n / 100) (omega arith)))

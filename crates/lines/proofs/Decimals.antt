-- Laws of a number's digits: how the last one is parted from the others, how many there are, and that they are read as the number.
use mathlib.Core.Bool.{true, false, not, ◌&&◌}
use mathlib.Core.List.{[], ◌∷◌, ◌++◌}
use mathlib.Core.Logic.{⊎_elim}
use mathlib.Core.Path.{◌≡◌, refl, ap, ◌∙◌}
use Prim.Native.Nat.{ℕ, zero, suc, ◌+◌, ◌-◌, ◌*◌, ◌/◌, ◌%◌, ◌^◌, ◌≤◌, ◌<◌}
use native.Mathlib.Nat.{pow-succ'}
use native.Mathlib.Omega.{arith}
use borrow.Author.Tests.{lt-ltb, le-ltb, le-leb, ne_eqb}
use lib.Dec.{leb, eqb}
use lib.ListN.{length, length-append}
use Rattle.lists.specs.Select.{every}
use Rattle.lists.proofs.Tests.{cmp, never, and_intro}
use Rattle.lists.proofs.Members.{every_mem, mem_every, every_append}
use Rattle.lines.specs.Bytes.{Bytes}
use Rattle.lines.specs.Fields.{is_digit, value_after, value}
use Rattle.lines.specs.Printing.{digits, decimal}

-- the bytes with a digit behind
abbrev and_last : ℕ → Bytes → Bytes
and_last n ds = ds ++ ((48 + n % 10) ∷ [])

-- more than n gives no other digits of n
same_digits : (j k n : ℕ) → n < j → n < k → digits j n ≡ digits k n
unfolding digits
same_digits zero k n hj hk = absurd (omega arith)
same_digits (suc j) zero n hj hk = absurd (omega arith)
same_digits (suc j) (suc k) n hj hk =
    ⊎_elim
    (λ h. rw (le-ltb n 10 h, digits) (ap (and_last n) (same_digits j k (n / 10) (omega arith) (omega arith))))
    (λ h. rw (lt-ltb n 10 h, digits))
    (cmp 10 n)

-- a number below ten is one digit
pub decimal_one : (n : ℕ) → n < 10 → decimal n ≡ (48 + n) ∷ []
unfolding decimal digits
decimal_one n h = rw (lt-ltb n 10 h, digits)

-- any other ends with what ten leaves of it
pub decimal_more : (n : ℕ) → 10 ≤ n → decimal n ≡ decimal (n / 10) ++ ((48 + n % 10) ∷ [])
unfolding decimal digits
decimal_more n h = rw (le-ltb n 10 h, digits) (ap (and_last n) (same_digits n (suc (n / 10)) (n / 10) (omega arith) (omega arith)))

pub length_one : (n : ℕ) → n < 10 → length (decimal n) ≡ 1
length_one n h = ap length (decimal_one n h)

pub length_more : (n : ℕ) → 10 ≤ n → length (decimal n) ≡ length (decimal (n / 10)) + 1
length_more n h = ap length (decimal_more n h) ∙ length-append (decimal (n / 10)) ((48 + n % 10) ∷ [])

pub some_digit : (n : ℕ) → 1 ≤ length (decimal n)
some_digit n = ⊎_elim (λ h. omega (arith, length_more n h)) (λ h. omega (arith, length_one n h)) (cmp 10 n)

-- below 10 ^ k there are at most k
pub at_most : (k n : ℕ) → n < 10 ^ suc k → length (decimal n) ≤ suc k
at_most zero n h = omega (arith, length_one n (omega arith))
at_most (suc k) n h =
    ⊎_elim
    (λ m. let fewer = at_most k (n / 10) (omega (arith, pow-succ' 10 (suc k))) in omega (arith, length_more n m))
    (λ m. omega (arith, length_one n m))
    (cmp 10 n)

-- what holds below ten, and of a number where it holds of its tenth, holds of every number
module _ (P : ℕ → Type 0) (one : (n : ℕ) → n < 10 → P n) (more : (n : ℕ) → 10 ≤ n → P (n / 10) → P n) where
  below : (k n : ℕ) → n < k → P n
  below zero n h = absurd (omega arith)
  below (suc k) n h = ⊎_elim (λ m. more n m (below k (n / 10) (omega arith))) (λ m. one n m) (cmp 10 n)

  by_tenths : (n : ℕ) → P n
  by_tenths n = below (suc n) n (omega arith)

-- one digit more after those of value n
value_last : (n : ℕ) (ds : Bytes) (b : ℕ) → value_after n (ds ++ (b ∷ [])) ≡ value_after n ds * 10 + (b - 48)
unfolding value_after
value_last n [] b = refl
value_last n (d ∷ ds) b = value_last (n * 10 + (d - 48)) ds b

-- the digits of a number are read as the number
pub value_decimal : (n : ℕ) → value (decimal n) ≡ n
unfolding value value_after
value_decimal =
    by_tenths (λ n. value (decimal n) ≡ n) (λ n h. ap value (decimal_one n h) ∙ omega arith)
    (λ n h e. ap value (decimal_more n h) ∙ value_last 0 (decimal (n / 10)) (48 + n % 10) ∙ omega (arith, e))

digit : (b : ℕ) → 48 ≤ b → b ≤ 57 → every is_digit (b ∷ []) ≡ true
unfolding every is_digit
digit b h k = and_intro (leb 48 b && leb b 57) true (and_intro (leb 48 b) (leb b 57) (le-leb 48 b h) (le-leb b 57 k)) refl

pub every_digit : (n : ℕ) → every is_digit (decimal n) ≡ true
every_digit =
    by_tenths (λ n. every is_digit (decimal n) ≡ true) (λ n h. ap (every is_digit) (decimal_one n h) ∙ digit (48 + n) (omega arith) (omega arith))
    (λ n h e. ap (every is_digit) (decimal_more n h)
    ∙ every_append is_digit (decimal (n / 10)) ((48 + n % 10) ∷ []) e (digit (48 + n % 10) (omega arith) (omega arith)))

-- no digit is a byte outside '0' to '9'
pub other_digits : (c n : ℕ) → is_digit c ≡ false → every (λ b. not (eqb b c)) (decimal n) ≡ true
other_digits c n h = mem_every _ (decimal n) (λ b m. ap not (ne_eqb b c (λ e. never (every_mem is_digit (every_digit n) m) (ap is_digit e ∙ h))))

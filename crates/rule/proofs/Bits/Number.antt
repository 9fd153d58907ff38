-- Bits and numbers: d bits stand for one grade below 2 ^ d, and each such grade for d bits.
use mathlib.Core.Path.{◌≡◌, refl, sym, ap, ap₂, ◌∙◌}
use mathlib.Core.Bool.{Bool, true, false}
use mathlib.Core.List.{List, [], ◌∷◌, ◌++◌}
use Prim.Native.Nat.{ℕ, zero, suc, ◌+◌, ◌*◌, ◌/◌, ◌%◌, ◌^◌, ◌<◌}
use native.Mathlib.Nat.{pow-succ', mod-lt, mod-one}
use native.Mathlib.Omega.{arith}
use lib.Dec.{eqb}
use lib.Arith.{digits_div, mod-mul}
use lib.ListN.{length, length-append}
use lib.Pow.{pow_pos, pow-add}
use borrow.Author.Tests.{eqb-true, eqb-false}
use Rattle.lists.specs.Select.{one_if}
use Rattle.lists.proofs.Counting.{one_if_most}
use Rattle.rule.specs.Grade.{bits}

-- the number that the bits w stand for, highest bit first
unfoldable pub number : List Bool → ℕ
number [] = 0
number (b ∷ w) = one_if b * 2 ^ length w + number w

pub length_bits : (d g : ℕ) → length (bits d g) ≡ d
unfolding bits
length_bits zero g = refl
length_bits (suc d) g = ap suc (length_bits d g)

-- a bit as a number, and back
one_if_is_one : (x : ℕ) → x < 2 → one_if (eqb x 1) ≡ x
unfolding one_if
one_if_is_one x h = go (eqb x 1) refl
  where
    go : (b : Bool) → eqb x 1 ≡ b → one_if b ≡ x
    go true e = omega (arith, eqb-true x 1 e)
    go false e = let z : ¬ (x ≡ 1) = eqb-false x 1 e in omega arith

is_one_one_if : (b : Bool) → eqb (one_if b) 1 ≡ b
unfolding one_if
is_one_one_if true = refl
is_one_one_if false = refl

pub number_bits : (d g : ℕ) → number (bits d g) ≡ g % 2 ^ d
unfolding bits number
number_bits zero g = sym (mod-one g)
number_bits (suc d) g =
    rw (pow-succ' 2 d, mod-mul g {m = 2} {c = 2 ^ d} (omega arith) (pow_pos d), length_bits d g, number_bits d g, one_if_is_one (g / 2 ^ d % 2) (mod-lt (g / 2 ^ d) (omega arith)))

pub number_below : (w : List Bool) → number w < 2 ^ length w
unfolding number one_if
number_below [] = omega arith
number_below (b ∷ w) = go b (number_below w)
  where
    go : (b : Bool) → number w < 2 ^ length w → one_if b * 2 ^ length w + number w < 2 ^ suc (length w)
    go true h = omega arith
    go false h = omega arith

regroup : (q b p n : ℕ) → q * (2 * p) + (b * p + n) ≡ (q * 2 + b) * p + n
regroup q b p n = omega arith

-- higher bits than those read do not matter
bits_below : (w : List Bool) (q : ℕ) → bits (length w) (q * 2 ^ length w + number w) ≡ w
unfolding bits number
bits_below [] q = refl
bits_below (b ∷ w) q =
    let x = q * 2 ^ suc (length w) + (one_if b * 2 ^ length w + number w) in
    let e : x ≡ (q * 2 + one_if b) * 2 ^ length w + number w = rw (pow-succ' 2 (length w)) (regroup q (one_if b) (2 ^ length w) (number w)) in
    let r : x / 2 ^ length w % 2 ≡ one_if b = rw (e, digits_div (q * 2 + one_if b) (number_below w)) (omega (arith, one_if_most b)) in
    ap₂ (λ c v. c ∷ v) (ap (λ y. eqb y 1) r ∙ is_one_one_if b) (rw e (bits_below w (q * 2 + one_if b)))

-- each list of d bits is the bits of its number
pub bits_number : (d : ℕ) (w : List Bool) → length w ≡ d → bits d (number w) ≡ w
bits_number d w h =
    let e : 0 * 2 ^ length w + number w ≡ number w = omega arith in
    rw (← h) (ap (bits (length w)) (sym e) ∙ bits_below w 0)

-- the number of a list in two parts
pub number_append : (u v : List Bool) → number (u ++ v) ≡ number u * 2 ^ length v + number v
unfolding number
number_append [] v = omega arith
number_append (b ∷ u) v =
    omega (arith, number_append u v, ap (λ k. one_if b * 2 ^ k) (length-append u v), ap (λ k. one_if b * k) (pow-add 2 (length u) (length v)))

-- one more bit at the end
pub number_more : (u : List Bool) (b : Bool) → number (u ++ (b ∷ [])) ≡ number u * 2 + one_if b
unfolding number
number_more u b = omega (arith, number_append u (b ∷ []))

-- A start of a grade as a number: at depth d, with `left` bits left, it stands for the first d - left bits. For all depths together.
use mathlib.Core.Path.{◌≡◌, sym, ap, ap₂, ◌∙◌}
use mathlib.Core.Bool.{Bool, true, false}
use mathlib.Core.Logic.{⊎_elim}
use mathlib.Core.List.{[], ◌∷◌, ◌++◌}
use Prim.Native.Nat.{ℕ, zero, suc, ◌+◌, ◌-◌, ◌*◌, ◌/◌, ◌^◌, ◌≤◌, ◌<◌}
use native.Mathlib.Nat.{mod-eq_of_lt, pow-succ', mul-le-mul_left, le_of_mul-le-mul_right}
use native.Mathlib.Numerals.{sub-one}
use native.Mathlib.Omega.{arith}
use lib.Dec.{eqb}
use lib.ListN.{length, length-append}
use lib.Pow.{pow_pos, pow-lt, pow-add}
use Rattle.lists.specs.Select.{one_if}
use Rattle.lists.proofs.Tests.{cmp}
use Rattle.rule.specs.Job.{Job}
use Rattle.rule.specs.Grade.{bits, graded}
use Rattle.rule.proofs.Bits.Number.{number, length_bits, number_bits, bits_number, number_more}
use Rattle.rule.proofs.Bits.Reading.{graded_reads}
use Rattle.search.specs.Inner.Start.{Start, first_bits}

-- twice the start, or one more, with one bit fewer left
next_room : (d left start : ℕ) → Start d start left → 1 ≤ left → Start d (start * 2 + 1) (left - 1)
next_room d zero start fits some = absurd (omega arith)
next_room d (suc n) start fits some = rw sub-one (omega (arith, simp pow-succ' at fits))

-- the grades that start with one bit more are among those that start so
pub next_fits : (left start : ℕ) → 1 ≤ left → (start * 2 + 1 + 1) * 2 ^ (left - 1) ≡ (start + 1) * 2 ^ left
next_fits zero start some = absurd (omega arith)
next_fits (suc n) start some = rw (sub-one, pow-succ' 2 n) (omega arith)

-- the grades that start so are below 2 ^ d
module _ (d left start : ℕ) (fits : Start d start left) where
  pub start_small : start < 2 ^ d
  start_small = omega (arith, mul-le-mul_left (start + 1) (pow_pos left))

  pub start_short : left ≤ d
  start_short = ⊎_elim (λ (h : left ≤ d). h) (λ (h : d < left). absurd (omega (arith, pow-lt h))) (cmp left d)

  -- the number stands for the bits
  start_number : number (first_bits d start left) ≡ start
  start_number =
      let e : d - left + left ≡ d = omega (arith, start_short) in
      let k : 2 ^ (d - left) * 2 ^ left ≡ 2 ^ d = sym (pow-add 2 (d - left) left) ∙ ap (λ n. 2 ^ n) e in
      let below : start + 1 ≤ 2 ^ (d - left) = le_of_mul-le-mul_right {k = 2 ^ left} (omega arith) (pow_pos left) in
      number_bits (d - left) start ∙ mod-eq_of_lt (omega arith)

  -- a grade starts so where it is the number once the bits left are shifted out
  pub starts_so : (r : Job) → r.grade < 2 ^ d → graded d (first_bits d start left) r ≡ eqb (r.grade / 2 ^ left) start
  starts_so r g =
      let u = first_bits d start left in
      let l : length u ≡ d - left = length_bits (d - left) start in
      let e : d - length u ≡ left = omega (arith, start_short) in
      graded_reads d u r g (omega arith) ∙ ap₂ (λ k n. eqb (r.grade / 2 ^ k) n) e start_number

  -- one bit more
  module _ (some : 1 ≤ left) where
    next_bits : (c : Bool) (n : ℕ) → n ≡ start * 2 + one_if c → first_bits d n (left - 1) ≡ first_bits d start left ++ (c ∷ [])
    next_bits c n e =
        let u = first_bits d start left in
        let w : number (u ++ (c ∷ [])) ≡ n = number_more u c ∙ ap (λ k. k * 2 + one_if c) start_number ∙ sym e in
        let l : length (u ++ (c ∷ [])) ≡ d - (left - 1) = omega (arith, length-append u (c ∷ []), length_bits (d - left) start, start_short) in
        ap (bits (d - (left - 1))) (sym w) ∙ bits_number (d - (left - 1)) (u ++ (c ∷ [])) l

    pub next_zero : first_bits d (start * 2) (left - 1) ≡ first_bits d start left ++ (false ∷ [])
    unfolding one_if
    next_zero = next_bits false (start * 2) (omega arith)

    pub next_one : first_bits d (start * 2 + 1) (left - 1) ≡ first_bits d start left ++ (true ∷ [])
    unfolding one_if
    next_one = next_bits true (start * 2 + 1) (omega arith)

    pub zero_fits : Start d (start * 2) (left - 1)
    zero_fits = omega (arith, next_room d left start fits some)

    pub one_fits : Start d (start * 2 + 1) (left - 1)
    one_fits = next_room d left start fits some

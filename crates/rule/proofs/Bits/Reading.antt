-- The numeric reading of starts: a grade of d bits starts with the bits u if the grade, divided by 2 ^ (d - length u), is the number of u.
use mathlib.Core.Path.{◌≡◌, refl, sym, ap, ap₂, ◌∙◌}
use mathlib.Core.Bool.{Bool, true}
use mathlib.Core.List.{List, ◌++◌}
use Prim.Native.Nat.{ℕ, ◌-◌, ◌/◌, ◌^◌, ◌≤◌, ◌<◌}
use native.Mathlib.Omega.{arith}
use native.Mathlib.Nat.{mod-eq_of_lt}
use lib.Dec.{eqb}
use lib.Arith.{digits_div}
use lib.ListN.{length, length-append, take, drop, take-append-drop, length-take}
use borrow.Author.Tests.{eqb-true, eq-eqb}
use Rattle.lists.proofs.Tests.{same_test}
use Rattle.rule.specs.Job.{Job}
use Rattle.rule.specs.Grade.{bits, starts, graded}
use Rattle.rule.proofs.Bits.Number.{number, length_bits, number_bits, number_below, number_append, bits_number}
use Rattle.rule.proofs.Bits.Starts.{starts_self, starts_rest}

-- the number of u with the bits v behind it, divided by 2 ^ length v
high_part : (u v : List Bool) → number (u ++ v) / 2 ^ length v ≡ number u
high_part u v = rw number_append (digits_div (number u) (number_below v))

-- of what starts with u, u is the high part
start_high : (d g : ℕ) (u : List Bool) → g < 2 ^ d → starts u (bits d g) ≡ true → g / 2 ^ (d - length u) ≡ number u
start_high d g u h s =
    let r = starts_rest u (bits d g) s in
    let e : g ≡ number (u ++ r.0) = sym (mod-eq_of_lt h) ∙ sym (number_bits d g) ∙ ap number r.1 in
    let l : d - length u ≡ length r.0 = omega (arith, length_bits d g, ap length r.1, length-append u r.0) in
    ap₂ (λ x k. x / 2 ^ k) e l ∙ high_part u r.0

-- a list of known length is known by its number
number_injective : (u v : List Bool) → length u ≡ length v → number u ≡ number v → u ≡ v
number_injective u v l e = sym (bits_number (length v) u l) ∙ ap (bits (length v)) e ∙ bits_number (length v) v refl

high_start : (d g : ℕ) (u : List Bool) → g < 2 ^ d → length u ≤ d → g / 2 ^ (d - length u) ≡ number u → starts u (bits d g) ≡ true
high_start d g u h l e =
    let t = take (length u) (bits d g) in
    let v = drop (length u) (bits d g) in
    let c : t ++ v ≡ bits d g = take-append-drop (length u) (bits d g) in
    let s : starts t (bits d g) ≡ true = rw c at (starts_self t v) in
    let k : length t ≡ length u = omega (arith, length-take (length u) (bits d g), length_bits d g) in
    let n : number t ≡ number u = sym (start_high d g t h s) ∙ ap (λ x. g / 2 ^ (d - x)) k ∙ e in
    rw (number_injective t u k n) at s

-- at all depths and for all starts no longer than the depth
pub starts_reads : (d g : ℕ) (u : List Bool) → g < 2 ^ d → length u ≤ d → starts u (bits d g) ≡ eqb (g / 2 ^ (d - length u)) (number u)
starts_reads d g u h l =
    same_test (starts u (bits d g)) (eqb (g / 2 ^ (d - length u)) (number u)) (λ s. eq-eqb (g / 2 ^ (d - length u)) (number u) (start_high d g u h s))
    (λ e. high_start d g u h l (eqb-true (g / 2 ^ (d - length u)) (number u) e))

pub graded_reads : (d : ℕ) (u : List Bool) (r : Job) → r.grade < 2 ^ d → length u ≤ d → graded d u r ≡ eqb (r.grade / 2 ^ (d - length u)) (number u)
unfolding graded
graded_reads d u r h l = starts_reads d r.grade u h l

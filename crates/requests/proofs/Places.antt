-- The fields behind a letter by the places where they end, and how many fields the line has.
use mathlib.Core.Bool.{Bool}
use mathlib.Core.Path.{◌≡◌, sym, ap, ◌∙◌}
use Prim.Native.Nat.{ℕ, suc, ◌+◌}
use native.Mathlib.Omega.{arith}
use lib.Dec.{eqb}
use lib.ListN.{length, drop}
use Rattle.lines.specs.Bytes.{Bytes, fields}
use Rattle.lines.specs.Reading.{Request, field}
use Rattle.fields.specs.Results.{Result}
use Rattle.fields.proofs.Commas.{first_length}
use Rattle.fields.proofs.Ends.{end_of, ends, next_field, whole}

-- an answer in two parts
pub both : (v w : Bool) (p q : Result Request) → v ≡ w → p ≡ q → ◌≡◌ {A = Bool × Result Request} (v, p) (w, q)
both v w p q e d = cc

module _ (l : Bytes) (letter : length (field 0 l) ≡ 1) where
  letter_ends : end_of l 0 ≡ 1
  letter_ends = omega (arith, first_length l)

  pub behind_letter : (n : ℕ) → field (suc n) l ≡ field n (drop 2 l)
  behind_letter n = next_field l 0 n ∙ ap (λ (k : ℕ). field n (drop (k + 1) l)) letter_ends

  -- a letter alone
  pub one : eqb 1 (length l) ≡ eqb (length (fields l)) 1
  unfolding ends
  one = ap (λ (k : ℕ). eqb k (length l)) (sym letter_ends) ∙ whole l 0

  -- a field behind it, which ends at a
  module _ (a : ℕ) (ends_a : a ≡ end_of l 2) where
    pub two : eqb a (length l) ≡ eqb (length (fields l)) 2
    unfolding ends
    two = ap (λ (k : ℕ). eqb k (length l)) (ends_a ∙ sym (ap (λ (k : ℕ). end_of l (k + 1)) letter_ends)) ∙ whole l 1

    pub second : field 2 l ≡ field 0 (drop (a + 1) l)
    second = behind_letter 1 ∙ next_field l 2 0 ∙ ap (λ (k : ℕ). field 0 (drop (k + 1) l)) (sym ends_a)

    -- two more behind that, which end at b and d
    module _ (b : ℕ) (ends_b : b ≡ end_of l (a + 1)) where
      pub third : field 3 l ≡ field 0 (drop (b + 1) l)
      third =
          behind_letter 2
          ∙ next_field l 2 1
          ∙ ap (λ (k : ℕ). field 1 (drop (k + 1) l)) (sym ends_a)
          ∙ next_field l (a + 1) 0
          ∙ ap (λ (k : ℕ). field 0 (drop (k + 1) l)) (sym ends_b)

      pub four : (d : ℕ) → d ≡ end_of l (b + 1) → eqb d (length l) ≡ eqb (length (fields l)) 4
      unfolding ends
      four d ends_d =
          let at_b : b ≡ ends l 1 (end_of l 0 + 1) = ends_b ∙ ap (λ (k : ℕ). end_of l (k + 1)) (ends_a ∙ sym (ap (λ (k : ℕ). end_of l (k + 1)) letter_ends)) in
          ap (λ (k : ℕ). eqb k (length l)) (ends_d ∙ ap (λ (k : ℕ). end_of l (k + 1)) at_b) ∙ whole l 3

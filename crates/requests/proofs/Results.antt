-- What a result says of the number and the values that it comes from.
use mathlib.Core.Path.{◌≡◌, refl, sym, ap}
use mathlib.Core.Bool.{Bool, true, false}
use mathlib.Core.Option.{none, some}
use Prim.Native.Nat.{ℕ, zero, suc, ◌<◌}
use native.Mathlib.Omega.{arith}
use Rattle.board.specs.Rows.{◌if◌, first_given}
use Rattle.fields.specs.Results.{Result, result}
use Rattle.fields.specs.Results.{unless}

-- a refusal is no answer with values
pub not_both : {A : Type 0} (m n : ℕ) (a : A) → ◌≡◌ {A = Result A} (m, none) (n, some a) → ⊥
not_both {A} m n a e = let z : ◌≡◌ {A = ℕ} 0 1 = cc (ap (λ (r : Result A). r.1) e) in omega arith

module _ {A : Type 0} where
  -- a refusal gives the number
  pub number_given : (k : ℕ) (a : A) (n : ℕ) → (n, none) ≡ result k a → (k ≡ n) × (0 < n)
  unfolding result
  number_given zero a n e = absurd (not_both n 0 a e)
  number_given (suc k) a n e = let same = ap (λ (r : Result A). r.0) e in (sym same, omega arith)

  -- the values are there where the number is 0
  pub values_given : (k : ℕ) (a b : A) → (0, some b) ≡ result k a → (k ≡ 0) × (a ≡ b)
  unfolding result
  values_given zero a b e = (refl, cc (ap (λ (r : Result A). r.1) e))
  values_given (suc k) a b e = absurd (not_both (suc k) 0 b (sym e))

  -- the same of one row
  pub row_given : (m : ℕ) (g : Bool) (a : A) (n : ℕ) → (n, none) ≡ unless (suc m if g) a → (g ≡ true) × (n ≡ suc m)
  unfolding unless first_given ◌if◌ result
  row_given m true a n e = (refl, ap (λ (r : Result A). r.0) e)
  row_given m false a n e = absurd (not_both n 0 a e)

  pub row_not_given : (m : ℕ) (g : Bool) (a b : A) → (0, some b) ≡ unless (suc m if g) a → (g ≡ false) × (a ≡ b)
  unfolding unless first_given ◌if◌ result
  row_not_given m true a b e = absurd (not_both (suc m) 0 b (sym e))
  row_not_given m false a b e = (refl, (values_given 0 a b e).1)

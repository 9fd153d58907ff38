-- The first line that is refused: behind lines of which none is.
use mathlib.Core.Path.{◌≡◌, refl, ap, ◌∙◌}
use mathlib.Core.List.{List, [], ◌∷◌, ◌++◌}
use mathlib.Core.Option.{Option, none, some}
use Prim.Native.Nat.{ℕ, zero, suc, ◌+◌}
use native.Mathlib.Omega.{arith}
use lib.ListN.{length}
use Rattle.board.specs.Rows.{Row, first_given}
use Rattle.lines.specs.Bytes.{Bytes}
use Rattle.worklist.specs.declared.Refused.{Refused}
use Rattle.worklist.specs.Refusals.{refused_or, first_refused}

pub refused_or_none : (n i : ℕ) (rest : Option Refused) → refused_or n i rest ≡ none → (n ≡ 0) × (rest ≡ none)
unfolding refused_or
refused_or_none zero i rest e = (refl, e)
refused_or_none (suc n) i rest e = let z : ◌≡◌ {A = ℕ} 0 1 = cc e in absurd (omega arith)

module _ (rows : Bytes → List Row) where
  pub refused_behind : (i : ℕ) (done ls : List Bytes) → first_refused rows i done ≡ none → first_refused rows i (done ++ ls) ≡ first_refused rows (i + length done) ls
  unfolding first_refused refused_or
  refused_behind i [] ls e = let z : i ≡ i + 0 = omega arith in ap (λ k. first_refused rows k ls) z
  refused_behind i (l ∷ done) ls e =
      let p = refused_or_none (first_given (rows l)) i (first_refused rows (suc i) done) e in
      let z : suc i + length done ≡ i + suc (length done) = omega arith in
      ap (λ n. refused_or n i (first_refused rows (suc i) (done ++ ls))) p.0
      ∙ refused_behind (suc i) done ls p.1
      ∙ ap (λ k. first_refused rows k ls) z

  -- a line that no row is given for
  pub refused_past : (i : ℕ) (l : Bytes) (ls : List Bytes) → first_given (rows l) ≡ 0 → first_refused rows i (l ∷ ls) ≡ first_refused rows (suc i) ls
  unfolding first_refused refused_or
  refused_past i l ls e = ap (λ n. refused_or n i (first_refused rows (suc i) ls)) e

  -- and one that is refused
  pub refused_here : (i n : ℕ) (l : Bytes) (ls : List Bytes) → first_given (rows l) ≡ suc n → first_refused rows i (l ∷ ls) ≡ some (record { line = i; number = suc n })
  unfolding first_refused refused_or
  refused_here i n l ls e = ap (λ n. refused_or n i (first_refused rows (suc i) ls)) e

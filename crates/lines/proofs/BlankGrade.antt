-- A blank grade is the worst of the open depth, and row 6 never refuses it.
use mathlib.Core.Path.{◌≡◌, refl, sym, ap, ◌∙◌, subst}
use mathlib.Core.Bool.{Bool, true, false, not, cond}
use mathlib.Core.List.{◌∷◌}
use mathlib.Core.Logic.{◌⊎◌, inl, inr}
use mathlib.Core.Option.{Option, none, some}
use Prim.Native.Nat.{ℕ, zero, suc, ◌^◌, ◌≤◌, ◌<◌}
use native.Mathlib.Omega.{arith}
use lib.Dec.{eqb}
use lib.Pow.{pow_pos}
use borrow.Author.Tests.{lt-leb, ne_eqb}
use Rattle.lists.specs.Select.{every}
use Rattle.lists.proofs.Tests.{never}
use Rattle.board.specs.declared.Board.{Board}
use Rattle.board.specs.Rows.{◌if◌, admit_rows}
use Rattle.board.specs.Held.{slot_of, in_slot}
use Rattle.board.specs.Sound.{sound}
use Rattle.board.specs.Admit.{admit_number, admitted}
use Rattle.lines.specs.Bytes.{Bytes}
use Rattle.lines.specs.Fields.{grade_meant}
use Rattle.lines.specs.Reading.{line_number, admit_job, request}
use Rattle.lines.specs.Session.{Step, is_open, step_refused, step_admit, when_open, step_request, step_if, step}
use Rattle.lines.specs.NeverMet.{number_of}
use Rattle.lines.specs.BlankGrade.{Worst, BlankGrade}
use Rattle.lines.proofs.NeverMet.MayMeet.{first_passes, admitted_number, from_11}

worst : (d : ℕ) → Worst d (grade_meant d none)
unfolding grade_meant
worst d = record { in_depth = omega (arith, pow_pos d); none_worse = λ g h. omega arith }

abbrev not_6 : ℕ → Bool
not_6 n = not (eqb n 6)

-- a step that is not refused with 6
record Passes (a : Step) : Type 0 where
  number : not_6 (number_of a.answer) ≡ true

either : (c : Bool) (a r : Step) → Passes a → Passes r → Passes (cond c a r)
either true a r p q = p
either false a r p q = q

-- rows 2 to 7 do not give it for a grade of the depth
module _ (b : Board) (t w g : ℕ) (h : g < 2 ^ b.depth) where
  row_6_passed : not_6 (admitted b t w g).refusal ≡ true
  unfolding admit_number admit_rows every ◌if◌
  row_6_passed =
      ap not_6 (admitted_number b t w g)
      ∙ first_passes not_6 refl (2 if not (sound b) ∷ admit_rows (slot_of b) b.highest (in_slot b) b.depth t w g) (simp (lt-leb (2 ^ b.depth) g h))

  admit_passes : Passes (step_admit b t w g)
  unfolding step_admit step_refused number_of
  admit_passes = either (eqb (admitted b t w g).refusal 0) _ _ (record { number = refl }) (record { number = row_6_passed })

asked : (o : Option Board) (t w : ℕ) → Passes (step_request o (admit_job t w none))
unfolding step_request when_open step_refused number_of
asked none t w = record { number = refl }
asked (some b) t w = admit_passes b t w _ (worst b.depth).in_depth

-- neither do rows 11 to 15
passes : (o : Option Board) (l : Bytes) (t w : ℕ) → request l ≡ admit_job t w none → Passes (step o l)
unfolding step step_if step_refused number_of
passes o l t w e = go (line_number (is_open o) l) (from_11 (is_open o) l)
  where
    go : (n : ℕ) → (n ≡ 0) ⊎ (11 ≤ n) → Passes (step_if n o l)
    go zero h = subst (λ q. Passes (step_request o q)) (sym e) (asked o t w)
    go (suc n) (inl k) = absurd (omega arith)
    go (suc n) (inr k) = record { number = ap not (ne_eqb (suc n) 6 (λ q. omega arith)) }

pub blank_grade : BlankGrade
unfolding number_of
blank_grade = record { worst = worst; never_6 = λ o l t w e h. never (passes o l t w e).number (ap (λ a. not_6 (number_of a)) h) }

-- A grade field is blank, or read as a number is.
use mathlib.Core.Path.{◌≡◌, refl, ap}
use mathlib.Core.Bool.{Bool, true, false, not}
use mathlib.Core.Option.{Option, none, some, map}
use Prim.Native.Nat.{ℕ}
use lib.ListN.{length}
use borrow.Author.Tests.{ne_eqb}
use Rattle.board.specs.Rows.{◌if◌, first_given}
use Rattle.lines.specs.Bytes.{Bytes}
use Rattle.lines.specs.Fields.{value, is_number, is_blank, a_number, a_grade, readable_as, value_as}
use Rattle.fields.specs.declared.grades.Grade.TheVariants.{Blank}
use Rattle.fields.specs.Results.{Result, result, unless}
use Rattle.fields.specs.Numbers.{field_read}
use Rattle.fields.specs.Grades.{grade_of}

-- a number's result as that of a grade
abbrev pub as_grade : Result ℕ → Result (Option ℕ)
as_grade r = (r.0, map some r.1)

module _ (f : Bytes) where
  pub blank : length f ≡ 0 → (0, some (grade_of Blank)) ≡ field_read a_grade f
  unfolding grade_of field_read readable_as value_as is_blank unless first_given ◌if◌ result
  blank h = simp h

  pub not_blank : (length f ≡ 0 → ⊥) → as_grade (field_read a_number f) ≡ field_read a_grade f
  unfolding field_read readable_as value_as is_blank unless first_given ◌if◌ result
  not_blank h = simp (ne_eqb (length f) 0 h) (go (is_number f))
    where
      go : (c : Bool) → as_grade (unless (14 if not c) (value f)) ≡ unless (14 if not c) (some (value f))
      go true = refl
      go false = refl

  -- a number that is refused is refused by row 14
  pub row_14 : (n : ℕ) → (n, none) ≡ field_read a_number f → (14, none) ≡ as_grade (field_read a_number f)
  unfolding field_read readable_as value_as unless first_given ◌if◌ result
  row_14 n = go (is_number f)
    where
      go : (c : Bool) → (n, none) ≡ unless (14 if not c) (value f) → (14, none) ≡ as_grade (unless (14 if not c) (value f))
      go true e = cc (ap (λ (r : Result ℕ). r.1) e)
      go false e = refl

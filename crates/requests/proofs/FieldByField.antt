-- The fields of a line read one after the other: a bad one gives 14, and the value of any other goes into the request.
use mathlib.Core.Path.{◌≡◌, refl, ap, ◌∙◌}
use mathlib.Core.Bool.{true, false, not}
use mathlib.Core.List.{List, [], ◌∷◌}
use mathlib.Core.Option.{none, some}
use Prim.Native.Nat.{ℕ, suc}
use borrow.Author.Tests.{not-true, not-false}
use Rattle.std.specs.Prelude.{Result as Tried, Ok, Err, IsOkAnd, MatchResult}
use Rattle.board.specs.Rows.{◌if◌, first_given}
use Rattle.board.specs.declared.refusal.Refusal.{Refusal}
use Rattle.lines.specs.Bytes.{Bytes}
use Rattle.lines.specs.Fields.{Kind, a_number, a_grade, readable_as, ReadAs, value_as}
use Rattle.lines.specs.Reading.{Request, admit_job, Asks, field, readable, with_values}
use Rattle.fields.specs.declared.grades.Grade.{Grade}
use Rattle.fields.specs.Results.{result, unless}
use Rattle.fields.specs.Numbers.{field_result, field_read}
use Rattle.fields.specs.Grades.{grade_of, grade_result}
use Rattle.requests.specs.declared.Asked.{Asked}
use Rattle.requests.specs.Answers.{request_of, asked_result}
use Rattle.requests.specs.Inner.Parts.{fields_read, admits}
use Rattle.requests.proofs.Results.{row_given, row_not_given}

-- what a field's answer says of it
module _ (k : Kind) (f : Bytes) where
  pub bad_says : (m : ℕ) → (m, none) ≡ field_read k f → (readable_as k f ≡ false) × (m ≡ 14)
  unfolding field_read
  bad_says m e = let s = row_given 13 _ (value_as k f) m e in (not-true (readable_as k f) s.0, s.1)

  pub good_says : (v : ReadAs k) → (0, some v) ≡ field_read k f → (readable_as k f ≡ true) × (value_as k f ≡ v)
  unfolding field_read
  good_says v e = let s = row_not_given 13 (not (readable_as k f)) (value_as k f) v e in (not-false (readable_as k f) s.0, s.1)

module _ (k : Kind) (ks : List Kind) (q : Asks (k ∷ ks)) (n : ℕ) (l : Bytes) where
  pub bad_field : (m : ℕ) → (m, none) ≡ field_read k (field n l) → (14, none) ≡ fields_read (k ∷ ks) q n l
  unfolding fields_read readable unless first_given ◌if◌ result
  bad_field m e = simp (bad_says k (field n l) m e).0

  pub good_field : (v : ReadAs k) → (0, some v) ≡ field_read k (field n l) → fields_read ks (q v) (suc n) l ≡ fields_read (k ∷ ks) q n l
  unfolding fields_read readable with_values
  good_field v e = let s = good_says k (field n l) v e in simp (s.0, s.1)

pub no_more_fields : (q : Request) (n : ℕ) (l : Bytes) → (0, some q) ≡ fields_read [] q n l
unfolding fields_read readable with_values unless first_given ◌if◌ result
no_more_fields q n l = refl

-- the fields of a line as the code answers them
module _ (l : Bytes) where
  -- a number, and what is asked for by it
  pub one_number : {asks : ℕ → Asked → Type 0} (q : ℕ → Request) (n : Tried ℕ Refusal) (r : Tried Asked Refusal)
      → field_result n ≡ field_read a_number (field 1 l)
      → MatchResult n (λ x. IsOkAnd r (asks x)) (λ e. r ≡ Err e)
      → ((x : ℕ) (a : Asked) → asks x a → request_of a ≡ q x)
      → asked_result r ≡ fields_read (a_number ∷ []) q 1 l
  one_number q (Ok x) (Ok a) e m h =
      ap (λ (k : Request). (0, some k)) (h x a m) ∙ no_more_fields (q x) 2 l ∙ good_field a_number [] q 1 l x e
  one_number q (Ok x) (Err y) e m h = absurd m
  one_number q (Err y) r e m h = ap asked_result m ∙ ap (λ (i : ℕ). (i, none)) (bad_says a_number (field 1 l) _ e).1 ∙ bad_field a_number [] q 1 l _ e

  -- the values of a line that admits
  pub three_values : (t w : Tried ℕ Refusal) (g : Tried Grade Refusal)
      → field_result t ≡ field_read a_number (field 1 l)
      → field_result w ≡ field_read a_number (field 2 l)
      → grade_result g ≡ field_read a_grade (field 3 l)
      → asked_result (admits t w g) ≡ fields_read (a_number ∷ a_number ∷ a_grade ∷ []) admit_job 1 l
  three_values (Err y) w g a b d = bad_field a_number (a_number ∷ a_grade ∷ []) admit_job 1 l _ a
  three_values (Ok t) (Err y) g a b d =
      bad_field a_number (a_grade ∷ []) (admit_job t) 2 l _ b ∙ good_field a_number (a_number ∷ a_grade ∷ []) admit_job 1 l t a
  three_values (Ok t) (Ok w) (Err y) a b d =
      bad_field a_grade [] (admit_job t w) 3 l _ d
      ∙ good_field a_number (a_grade ∷ []) (admit_job t) 2 l w b
      ∙ good_field a_number (a_number ∷ a_grade ∷ []) admit_job 1 l t a
  three_values (Ok t) (Ok w) (Ok g) a b d =
      no_more_fields _ 4 l
      ∙ good_field a_grade [] (admit_job t w) 3 l (grade_of g) d
      ∙ good_field a_number (a_grade ∷ []) (admit_job t) 2 l w b
      ∙ good_field a_number (a_number ∷ a_grade ∷ []) admit_job 1 l t a

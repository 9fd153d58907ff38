-- What a first field's answer says of its bytes and of the line's form.
use mathlib.Core.Path.{◌≡◌, refl, sym, ap, ◌∙◌}
use mathlib.Core.List.{[], ◌∷◌}
use mathlib.Core.Bool.{Bool, true, false}
use mathlib.Core.Logic.{◌⊎◌, inl, inr}
use mathlib.Core.Option.{Option, none, some}
use Prim.Native.Nat.{ℕ, ◌≤◌}
use Rattle.std.specs.Prelude.{Option as Perhaps, Some, None, Err}
use Rattle.std.specs.Option.{ok_or}
use Rattle.board.specs.declared.refusal.Refusal.{Refusal}
use Rattle.board.specs.declared.refusal.Refusal.TheVariants.{NoLetter}
use native.Mathlib.Omega.{arith}
use lib.Dec.{eqb}
use lib.ListN.{length, get_or, take}
use borrow.Author.Tests.{eqb-true, eqb-false}
use Rattle.lists.specs.Before.{before}
use Rattle.lists.proofs.Before.{before_within}
use Rattle.lists.proofs.Tests.{test}
use Rattle.lines.specs.Bytes.{Bytes, comma, letter_A, letter_B, letter_D, letter_Q, letter_W}
use Rattle.lines.specs.Fields.{is_letter}
use Rattle.lines.specs.Reading.{Form, forms, form_in, field}
use Rattle.lines.proofs.InTurn.{Every, found}
use Rattle.fields.proofs.Commas.{first_field, first_length}
use Rattle.fields.specs.Results.{result}
use Rattle.reading.specs.Inner.Parts.{form_result, letter_read}
use Rattle.requests.proofs.Results.{not_both, values_given}

-- a first field of one byte is judged by the line's first byte, and any other field is no letter
pub first_byte : (l : Bytes) → length (field 0 l) ≡ 1 → letter_read (field 0 l) ≡ letter_read (get_or l 0 0 ∷ [])
first_byte l h =
    let n : before comma l ≡ 1 = omega (arith, first_length l) in
    ap letter_read (sym (first_field l) ∙ ap (λ (k : ℕ). take k l) n ∙ alone l (omega (arith, before_within comma l)))
  where
    alone : (l : Bytes) → 1 ≤ length l → take 1 l ≡ get_or l 0 0 ∷ []
    alone [] k = absurd (omega arith)
    alone (b ∷ bs) k = refl

pub other_length : (f : Bytes) → (length f ≡ 1 → ⊥) → (12, none) ≡ letter_read f
unfolding letter_read form_result form_in forms is_letter
other_length [] h = refl
other_length (b ∷ []) h = absurd (h refl)
other_length (b ∷ (x ∷ bs)) h = refl

-- the form from which a letter's answer comes; the letter alone finds it too
pub record Known (f : Bytes) (c : ℕ) (o : Bool) : Type 0 where
  pub form : Form
  pub of_field : form_in forms f ≡ some form
  pub of_letter : form_in forms (c ∷ []) ≡ some form
  pub for_open : form.for_open ≡ o

finds_itself : Every (λ r. form_in forms (r.letter ∷ []) ≡ some r) forms
unfolding Every form_in forms is_letter letter_A letter_B letter_D letter_Q letter_W
finds_itself = (refl, (refl, (refl, (refl, (refl, record {})))))

pub letter_says : (f : Bytes) (c : ℕ) (o : Bool) → (0, some (c, o)) ≡ letter_read f → Known f c o
unfolding letter_read form_result result
letter_says f c o e = go (form_in forms f) refl e
  where
    go : (q : Option Form) → form_in forms f ≡ q → (0, some (c, o)) ≡ form_result q → Known f c o
    go none k e = absurd (not_both 12 0 (c, o) (sym e))
    go (some r) k e =
        let same = (values_given 0 (r.letter, r.for_open) (c, o) e).1 in
        record {
          form = r;
          of_field = k;
          of_letter = ap (λ x. form_in forms (x.0 ∷ [])) (sym same) ∙ (found _ forms finds_itself f r k).1;
          for_open = ap (λ x. x.1) same;
        }

pub other_says : (f : Bytes) → (12, none) ≡ letter_read f → form_in forms f ≡ none
unfolding letter_read form_result
other_says f e = go (form_in forms f) e
  where
    go : (q : Option Form) → (12, none) ≡ form_result q → q ≡ none
    go none e = refl
    go (some r) e = absurd (not_both 12 0 _ e)

-- a letter is one byte
pub letter_alone : (f : Bytes) (c : ℕ) (o : Bool) → (0, some (c, o)) ≡ letter_read f → length f ≡ 1
letter_alone f c o e = go (test (eqb (length f) 1))
  where
    go : (eqb (length f) 1 ≡ true) ⊎ (eqb (length f) 1 ≡ false) → length f ≡ 1
    go (inl h) = eqb-true _ _ h
    go (inr h) =
        let n : form_in forms f ≡ none = other_says f (other_length f (eqb-false _ _ h)) in
        let z : ◌≡◌ {A = ℕ} 0 1 = cc (n, (letter_says f c o e).of_field) in
        absurd (omega arith)

-- where the code has no letter
pub no_letter : {e : Refusal} (s : Perhaps (ℕ × Bool)) → ok_or s NoLetter ≡ Err e → (s ≡ None) × (e ≡ NoLetter)
no_letter None k = (refl, cc)
no_letter (Some x) k = absurd (cc)

-- Rows 11 to 15 let a line through only in its turn: while no board is open one that opens a board, while one is open any other.
use mathlib.Core.Path.{◌≡◌, refl, sym, ◌∙◌, subst}
use mathlib.Core.Bool.{Bool, true, false}
use mathlib.Core.List.{List, [], ◌∷◌}
use mathlib.Core.Logic.{◌⊎◌, inl, inr}
use mathlib.Core.Option.{Option, none, some, some-injective}
use Prim.Native.Nat.{ℕ}
use native.Mathlib.Omega.{arith}
use borrow.Author.Tests.{not-false}
use Rattle.lists.proofs.Tests.{test, never}
use Rattle.board.specs.Rows.{first_given}
use Rattle.board.proofs.Calls.Rows.{row_passed}
use Rattle.lines.specs.Bytes.{Bytes}
use Rattle.lines.specs.Fields.{is_letter}
use Rattle.lines.specs.Reading.{Request, open_board, admit_job, close_slot, ask_promise, withdraw_job, Form, forms, form_in, field, form_of, too_long, out_of_turn, form_rows, line_rows, line_number, with_values, request_by, request}

-- what holds of every form of a table
unfoldable pub Every : (Form → Type 0) → List Form → Type 0
Every P [] = record {}
Every P (r ∷ rs) = P r × Every P rs

-- the first form with the letter is found
module _ (r : Form) (rs : List Form) (f : Bytes) where
  form_here : is_letter r.letter f ≡ true → form_in (r ∷ rs) f ≡ some r
  unfolding form_in
  form_here t = simp t

  form_later : is_letter r.letter f ≡ false → form_in (r ∷ rs) f ≡ form_in rs f
  unfolding form_in
  form_later t = simp t

-- a form that is found has the letter, and what holds of every form holds of it
pub found : (P : Form → Type 0) (rs : List Form) → Every P rs → (f : Bytes) (r : Form) → form_in rs f ≡ some r → (is_letter r.letter f ≡ true) × P r
unfolding Every form_in
found P [] e f r h = let z : ◌≡◌ {A = ℕ} 0 1 = cc in absurd (omega arith)
found P (x ∷ rs) e f r h = go (test (is_letter x.letter f)) (found P rs e.1 f r)
  where
    go : (is_letter x.letter f ≡ true) ⊎ (is_letter x.letter f ≡ false)
        → (form_in rs f ≡ some r → (is_letter r.letter f ≡ true) × P r) → (is_letter r.letter f ≡ true) × P r
    go (inl t) ih = subst (λ y. (is_letter y.letter f ≡ true) × P y) (some-injective x r (sym (form_here x rs f t) ∙ h)) (t, e.0)
    go (inr t) ih = ih (sym (form_later x rs f t) ∙ h)

-- the request is for a board that is open
unfoldable pub needs_open : Request → Bool
needs_open (open_board d) = false
needs_open (admit_job t w g) = true
needs_open close_slot = true
needs_open ask_promise = true
needs_open (withdraw_job t) = true

-- in its turn a line of this form asks for what then can be done
InTurn : Form → Type 0
InTurn r = (l : Bytes) (o : Bool) → out_of_turn r.for_open o ≡ false → needs_open (request_by (some r) l) ≡ o

each_in_turn : Every InTurn forms
unfolding Every forms InTurn out_of_turn needs_open request_by with_values
each_in_turn =
    (λ l o h. sym h, (λ l o h. sym (not-false o h), (λ l o h. sym (not-false o h), (λ l o h. sym (not-false o h), (λ l o h. sym (not-false o h), record {})))))

pub in_turn : (o : Bool) (l : Bytes) → line_number o l ≡ 0 → needs_open (request l) ≡ o
unfolding line_number line_rows form_rows form_of request InTurn
in_turn o l h = go (form_in forms (field 0 l)) refl (row_passed 10 (too_long l) _ h).1
  where
    go : (q : Option Form) → form_in forms (field 0 l) ≡ q → first_given (form_rows q o l) ≡ 0 → needs_open (request_by q l) ≡ o
    go none e k = never refl (row_passed 11 true [] k).0
    go (some r) e k =
        let thirteen = row_passed 12 _ _ k in
        let fourteen = row_passed 13 _ _ thirteen.1 in
        (found InTurn forms each_in_turn (field 0 l) r e).1 l o (row_passed 14 _ _ fourteen.1).0

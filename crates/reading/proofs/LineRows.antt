-- The rows of a line, taken one after the other.
use mathlib.Core.Path.{◌≡◌, refl, sym, ap, ap₂, ◌∙◌}
use mathlib.Core.List.{List, [], ◌∷◌}
use mathlib.Core.Bool.{Bool, true, false, not, beq}
use mathlib.Core.Option.{Option, none, some}
use Prim.Native.Nat.{ℕ, suc, ◌≤◌, ◌<◌}
use lib.ListN.{length, drop}
use lib.Dec.{eqb}
use borrow.Author.Tests.{lt-ltb, le-ltb}
use Rattle.std.specs.Prelude.{Ok, Err}
use Rattle.lists.proofs.Tests.{cond_true}
use Rattle.board.specs.Rows.{Row, ◌if◌, first_given}
use Rattle.board.proofs.Calls.Rows.{row_skipped}
use Rattle.board.specs.declared.refusal.Refusal.{Refusal}
use Rattle.board.specs.Refusals.{number_of}
use Rattle.lines.specs.Bytes.{Bytes, fields}
use Rattle.lines.specs.Reading.{Form, form_of, field, longest_line, too_long, fields_wanted, readable, out_of_turn, form_rows, line_rows, line_number, with_values, request_by, request}
use Rattle.requests.specs.declared.Asked.{Asked}
use Rattle.requests.specs.declared.Read.{Read}
use Rattle.requests.specs.Answers.{request_of, asked_result}
use Rattle.reading.specs.Answers.{line_result}
use Rattle.fields.specs.Results.{result}
use Rattle.requests.specs.Inner.Parts.{fields_read, read_result, form_read, after_letter}
use Rattle.reading.specs.Inner.Parts.{letter_read}
use Rattle.requests.proofs.Results.{row_given, row_not_given}
use Rattle.reading.proofs.Letters.{other_says, Known, letter_says}

-- a line is out of turn where one of the two holds: it is for a board that is open, one is open
turn_test : (f o : Bool) → out_of_turn f o ≡ not (beq o f)
unfolding out_of_turn
turn_test true true = refl
turn_test true false = refl
turn_test false true = refl
turn_test false false = refl

module _ (o : Bool) (l : Bytes) where
  -- a row that is given where those before it are not
  given : (n : ℕ) (g : Bool) (rows : List Row) → line_number o l ≡ first_given (suc n if g ∷ rows) → g ≡ true → (suc n, none) ≡ line_result o l
  unfolding first_given ◌if◌ result line_result
  given n g rows e h = sym (ap (λ (k : ℕ). result k (request l)) (e ∙ cond_true g (suc n) (first_given rows) h))

  pub row_11 : longest_line < length l → (11, none) ≡ line_result o l
  unfolding line_number line_rows too_long
  row_11 h = given 10 _ _ refl (lt-ltb longest_line (length l) h)

  module _ (short : length l ≤ longest_line) where
    past_11 : {q : Option Form} → form_of l ≡ q → line_number o l ≡ first_given (form_rows q o l)
    unfolding line_number line_rows too_long
    past_11 e = row_skipped 11 _ _ (le-ltb longest_line (length l) short) ∙ ap (λ q. first_given (form_rows q o l)) e

    pub row_12 : (12, none) ≡ letter_read (field 0 l) → (12, none) ≡ line_result o l
    unfolding form_of form_rows
    row_12 e = given 11 true [] (past_11 (other_says (field 0 l) e)) refl

    module _ (c : ℕ) (t : Bool) (e : (0, some (c, t)) ≡ letter_read (field 0 l)) (r : Read) (d : read_result r ≡ after_letter c l) where
      known : Known (field 0 l) c t
      known = letter_says (field 0 l) c t e

      past_12 : line_number o l ≡ first_given (form_rows (some known.form) o l)
      unfolding form_of
      past_12 = past_11 known.of_field

      -- what the answer comes from
      form_says : read_result r ≡ (eqb (length (fields l)) (fields_wanted known.form), fields_read known.form.after known.form.asks 1 l)
      unfolding after_letter form_read
      form_says = d ∙ ap (λ (q : Option Form). form_read q l) known.of_letter

      counted : not (eqb (length (fields l)) (fields_wanted known.form)) ≡ not r.whole
      unfolding read_result
      counted = ap not (sym (ap (λ p. p.0) form_says))

      fields_say : asked_result r.asked ≡ fields_read known.form.after known.form.asks 1 l
      unfolding read_result
      fields_say = ap (λ p. p.1) form_says

      pub row_13 : not r.whole ≡ true → (13, none) ≡ line_result o l
      unfolding form_rows
      row_13 h = given 12 _ _ past_12 (counted ∙ h)

      module _ (k : not r.whole ≡ false) where
        past_13 : line_number o l ≡ first_given (drop 1 (form_rows (some known.form) o l))
        unfolding form_rows
        past_13 = past_12 ∙ row_skipped 13 _ _ (counted ∙ k)

        pub row_14 : (y : Refusal) → r.asked ≡ Err y → asked_result (Err y) ≡ line_result o l
        unfolding form_rows fields_read
        row_14 y a =
            let g = row_given 13 _ _ (number_of y) (sym (ap asked_result a) ∙ fields_say) in
            ap (λ (i : ℕ). (i, none)) g.1 ∙ given 13 _ _ past_13 g.0

        module _ (a : Asked) (h : r.asked ≡ Ok a) where
          -- the fields are readable, and the request is the line's
          readable_here : (not (readable known.form.after 1 l) ≡ false) × (with_values known.form.after known.form.asks 1 l ≡ request_of a)
          unfolding fields_read
          readable_here = row_not_given 13 _ _ (request_of a) (sym (ap asked_result h) ∙ fields_say)

          past_14 : line_number o l ≡ first_given (drop 2 (form_rows (some known.form) o l))
          unfolding form_rows
          past_14 = past_13 ∙ row_skipped 14 _ _ readable_here.0

          turn_here : out_of_turn known.form.for_open o ≡ not (beq o t)
          turn_here = turn_test known.form.for_open o ∙ ap (λ (f : Bool). not (beq o f)) known.for_open

          pub row_15 : not (beq o t) ≡ true → (15, none) ≡ line_result o l
          unfolding form_rows
          row_15 g = given 14 _ [] past_14 (turn_here ∙ g)

          pub through : not (beq o t) ≡ false → asked_result (Ok a) ≡ line_result o l
          unfolding form_rows first_given line_result result request form_of request_by
          through g =
              let n : line_number o l ≡ 0 = past_14 ∙ row_skipped 15 _ [] (turn_here ∙ g) in
              let q : request l ≡ request_of a = ap (λ (q : Option Form). request_by q l) known.of_field ∙ readable_here.1 in
              sym (ap₂ result n q)

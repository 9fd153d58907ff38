-- A line of two fields: its answer, by where the fields end and what their readers say.
use mathlib.Core.Path.{◌≡◌, sym, ap, ◌∙◌}
use mathlib.Core.Bool.{true}
use mathlib.Core.Option.{none, some}
use Prim.Native.Nat.{ℕ, ◌+◌, ◌≤◌, ◌<◌}
use native.Mathlib.Omega.{arith}
use lib.Dec.{eqb}
use lib.ListN.{length, drop}
use borrow.Author.Tests.{lt-ltb, le-ltb, ne_eqb, eq-eqb}
use Rattle.lists.specs.Before.{before}
use Rattle.board.specs.Rows.{◌if◌, first_given}
use Rattle.lines.specs.Bytes.{Bytes, comma, fields}
use Rattle.lines.specs.Fields.{a_number, value_as}
use Rattle.lines.specs.Reading.{longest_line, too_long, field, readable}
use Rattle.fields.specs.Results.{result}
use Rattle.fields.specs.Numbers.{field_read}
use Rattle.fields.proofs.Ends.{ends, end_within, next_field, whole}
use Rattle.requests.proofs.FieldByField.{bad_says, good_says}
use Rattle.requests.proofs.Results.{number_given, values_given}
use Rattle.matching.specs.declared.Window.{Window}
use Rattle.worklist.specs.Lines.{window_rows, window_in, window_read}

module _ (l : Bytes) where
  pub row_11 : longest_line < length l → (11, none) ≡ window_read l
  unfolding window_read window_rows too_long first_given ◌if◌ result
  row_11 h = simp (lt-ltb longest_line (length l) h)

  -- the fields end at a and at b
  module _ (short : length l ≤ longest_line) (a b : ℕ) (ea : a ≡ 0 + before comma (drop 0 l)) (eb : b ≡ a + 1 + before comma (drop (a + 1) l)) where
    second_end : ends l 1 0 ≡ b
    unfolding ends
    second_end = ap (λ k. k + 1 + before comma (drop (k + 1) l)) (sym ea) ∙ sym eb

    two : eqb b (length l) ≡ eqb (length (fields l)) 2
    two = ap (λ k. eqb k (length l)) (sym second_end) ∙ whole l 1

    pub first_within : a ≤ longest_line
    first_within = omega (arith, end_within l 0)

    pub second_field : field 1 l ≡ field 0 (drop (a + 1) l)
    second_field = next_field l 0 0 ∙ ap (λ k. field 0 (drop (k + 1) l)) (sym ea)

    pub row_13 : (b ≡ length l → ⊥) → (13, none) ≡ window_read l
    unfolding window_read window_rows too_long first_given ◌if◌ result
    row_13 h = simp (le-ltb longest_line (length l) short, sym two ∙ ne_eqb b (length l) h)

    module _ (h : b ≡ length l) where
      there : eqb (length (fields l)) 2 ≡ true
      there = sym two ∙ eq-eqb b (length l) h

      pub first_bad : (m : ℕ) → (m, none) ≡ field_read a_number (field 0 l) → (14, none) ≡ window_read l
      unfolding window_read window_rows too_long first_given ◌if◌ result readable
      first_bad m e = simp (le-ltb longest_line (length l) short, there, (bad_says a_number (field 0 l) m e).0)

      module _ (m : ℕ) (em : (0, some m) ≡ field_read a_number (field 0 l)) where
        pub second_bad : (n : ℕ) → (n, none) ≡ field_read a_number (field 1 l) → (14, none) ≡ window_read l
        unfolding window_read window_rows too_long first_given ◌if◌ result readable
        second_bad n e =
            simp (le-ltb longest_line (length l) short, there, (good_says a_number (field 0 l) m em).0, (bad_says a_number (field 1 l) n e).0)

        pub both_good : (n : ℕ) → (0, some n) ≡ field_read a_number (field 1 l)
            → (0, some (record { first = record { 0 = m }; last = record { 0 = n } })) ≡ window_read l
        unfolding window_read window_rows window_in too_long first_given ◌if◌ result readable value_as
        both_good n en =
            let f = good_says a_number (field 0 l) m em in
            let g = good_says a_number (field 1 l) n en in
            simp (le-ltb longest_line (length l) short, there, f.0, g.0, f.1, g.1)

-- what an answer says of the line's rows
module _ (l : Bytes) where
  pub window_there : (w : Window) → (0, some w) ≡ window_read l → (first_given (window_rows l) ≡ 0) × (w ≡ window_in l)
  unfolding window_read
  window_there w e = let v = values_given (first_given (window_rows l)) (window_in l) w e in (v.0, sym v.1)

  pub row_there : (n : ℕ) → (n, none) ≡ window_read l → (first_given (window_rows l) ≡ n) × (0 < n)
  unfolding window_read
  row_there n e = number_given (first_given (window_rows l)) (window_in l) n e

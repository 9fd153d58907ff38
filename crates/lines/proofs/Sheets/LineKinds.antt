-- The lines of a page: each is whole, and its figures stand in the columns that 02 names.
use mathlib.Core.Path.{◌≡◌, refl, sym, ap, ◌∙◌, subst}
use mathlib.Core.Bool.{true, not}
use mathlib.Core.List.{List, [], ◌∷◌, map, sum}
use Prim.Native.Nat.{ℕ, zero, suc, ◌+◌, ◌≤◌}
use native.Mathlib.Omega.{arith}
use lib.Dec.{ltb, eqb}
use lib.ListN.{length}
use borrow.Author.Tests.{lt-ltb, ne_eqb}
use Rattle.lists.specs.Select.{select, every}
use Rattle.lists.proofs.Joined.{together, ◌also◌}
use Rattle.lists.proofs.Counting.{count_length, count_select, count_cong}
use Rattle.lines.specs.Bytes.{line_end, letter_G}
use Rattle.lines.specs.Fields.{is_digit}
use Rattle.lines.specs.Printing.{decimal}
use Rattle.lines.specs.Sheet.{Figures, ◌ending_in◌, line_columns, line_behind, line_with, to_right, space, slot_line, heading, totals_line, blank_line, number_baked, number_given_up}
use Rattle.lines.specs.SheetReadBack.{columns, heading_text, Stands, Blank, SlotLine, TotalsLine}
use Rattle.lines.proofs.Cutting.{one_line}
use Rattle.lines.proofs.Decimals.{at_most, other_digits}
use Rattle.lines.proofs.Sheets.Fits.{fits, Fitting, few_given_up}
use Rattle.lines.proofs.Sheets.Columns.{text_of, Behind, from_start, next_cell, field}
use Rattle.lines.proofs.Sheets.Cells.{whole, in_order, on_one_line, whole_line}

decimal_one_line : (n : ℕ) → one_line (decimal n) ≡ true
unfolding line_end is_digit
decimal_one_line n = other_digits line_end n refl

-- each kind of line is whole
pub slot_whole : (f : Figures) → whole (slot_line f) ≡ true
unfolding slot_line ◌ending_in◌ in_order line_columns
slot_whole f =
    let d = decimal_one_line in
    whole_line _ refl (together on_one_line _ (d f.slot also d f.ticket also d f.grade also d f.given_up also tt))

pub totals_whole : (fs : List Figures) → whole (totals_line fs) ≡ true
unfolding totals_line ◌ending_in◌ in_order line_columns
totals_whole fs =
    let d = decimal_one_line in
    whole_line _ refl (together on_one_line _ (d (number_baked fs) also d (number_given_up fs) also tt))

pub blank_whole : whole blank_line ≡ true
unfolding blank_line in_order line_columns every
blank_whole = whole_line _ refl refl

pub heading_whole : whole heading ≡ true
unfolding heading ◌ending_in◌ in_order line_columns every line_end letter_G
heading_whole = whole_line _ refl refl

-- what is read in a heading and in a line of spaces
pub heading_read : text_of heading ≡ heading_text
unfolding heading ◌ending_in◌ line_with line_behind line_columns to_right space letter_G heading_text
heading_read = refl

pub blank_read : Blank 1 24 (text_of blank_line)
unfolding Blank columns blank_line line_with line_behind line_columns space
blank_read = refl

-- the columns of a closing's figures
pub slot_read : (f : Figures) → Fitting f → SlotLine f (text_of (slot_line f))
unfolding slot_line ◌ending_in◌ line_columns
slot_read f h =
    let slot_cell : Behind 0 _ (slot_line f) = from_start _ in
    let ticket_cell = next_cell slot_cell (omega arith) in
    let grade_cell = next_cell ticket_cell (omega arith) in
    let given_up_cell = next_cell grade_cell (omega arith) in
    let slot_digits = at_most 6 f.slot (omega (arith, h.slot)) in
    let ticket_digits = at_most 9 f.ticket (omega (arith, h.ticket)) in
    let grade_digits = at_most 0 f.grade (omega (arith, h.grade)) in
    let given_up_digits = at_most 2 f.given_up (omega (arith, h.given_up)) in
    let slot = field slot_cell 1 (omega arith) (omega arith) (omega arith) f.slot refl in
    let ticket = field ticket_cell 9 (omega arith) (omega arith) (omega arith) f.ticket refl in
    let grade = field grade_cell 20 (omega arith) (omega arith) (omega arith) f.grade refl in
    let given_up = field given_up_cell 22 (omega arith) (omega arith) (omega arith) f.given_up refl in
    record {
      slot = slot.1;
      after_slot = ticket.0;
      ticket = ticket.1;
      after_ticket = grade.0;
      grade = grade.1;
      after_grade = given_up.0;
      given_up = given_up.1;
    }

-- the number baked is that of the slots with a ticket
baked_slots : (fs : List Figures) → number_baked fs ≡ length (select (λ f. ltb 0 f.ticket) fs)
unfolding number_baked
baked_slots fs =
    count_cong _ _ fs (λ f m. with_ticket f.ticket)
    ∙ sym (count_select (λ f. ltb 0 f.ticket) fs)
  where
    with_ticket : (t : ℕ) → not (eqb t 0) ≡ ltb 0 t
    with_ticket zero = refl
    with_ticket (suc t) = ap not (ne_eqb (suc t) 0 (λ e. omega arith)) ∙ sym (lt-ltb 0 (suc t) (omega arith))

-- the number given up is the sum of the figures
given_up_sum : (fs : List Figures) → number_given_up fs ≡ sum ◌+◌ 0 (map (λ f. f.given_up) fs)
unfolding number_given_up sum
given_up_sum [] = refl
given_up_sum (f ∷ fs) = ap (f.given_up +◌) (given_up_sum fs)

-- the figures of a page's totals
pub totals_read : (fs : List Figures) → every fits fs ≡ true → length fs ≤ 48 → TotalsLine fs (text_of (totals_line fs))
unfolding totals_line ◌ending_in◌ line_columns number_baked
totals_read fs h k =
    let l = text_of (totals_line fs) in
    let baked_cell : Behind 0 _ (totals_line fs) = from_start _ in
    let given_up_cell = next_cell baked_cell (omega arith) in
    let baked_digits = at_most 9 (number_baked fs) (omega (arith, count_length (λ f. not (eqb f.ticket 0)) fs)) in
    let given_up_digits = at_most 5 (number_given_up fs) (omega (arith, few_given_up fs h)) in
    let baked = field baked_cell 9 (omega arith) (omega arith) (omega arith) (number_baked fs) refl in
    let given_up = field given_up_cell 19 (omega arith) (omega arith) (omega arith) (number_given_up fs) refl in
    record { before = baked.0; baked = subst (Stands 9 18 l) (baked_slots fs) baked.1; given_up = subst (Stands 19 24 l) (given_up_sum fs) given_up.1 }

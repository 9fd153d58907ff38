-- The pages of closings whose figures fit, cut into lines and read column by column, are those closings.
use mathlib.Core.Path.{◌≡◌, sym, ap, ◌∙◌, subst}
use mathlib.Core.Bool.{true}
use mathlib.Core.List.{List, [], flatten}
use Prim.Native.Nat.{ℕ, suc, ◌+◌, ◌*◌, ◌-◌, ◌/◌, ◌%◌, ◌≤◌, ◌<◌, min}
use native.Mathlib.Omega.{arith}
use lib.ListN.{length, get_or, drop, length-take, length-drop}
use lib.Seq.{get_or-take, get_or-drop}
use Rattle.lists.specs.Select.{every}
use Rattle.lists.proofs.Every.{every_take, every_drop, every_at}
use Rattle.lines.specs.Bytes.{Bytes, lines}
use Rattle.lines.specs.Sheet.{Figures, pages, slot_line, blank_line, totals_line, page_lines}
use Rattle.lines.specs.SheetReadBack.{heading_text, page_count, Blank, SlotLine, TotalsLine, SheetOf}
use Rattle.lines.proofs.Sheets.Fits.{fits, fitting}
use Rattle.lines.proofs.Sheets.Columns.{text_of}
use Rattle.lines.proofs.Sheets.LineKinds.{heading_read, blank_read, slot_read, totals_read}
use Rattle.lines.proofs.Sheets.PageLines.{heading_at, slot_at, blank_at, totals_at, text_length}
use Rattle.lines.proofs.Sheets.Pages.{on_page, page_short, sheet_lines, sheet_length, sheet_line}
pub mod Fits
pub mod Right
pub mod Columns
pub mod Cells
pub mod LineKinds
pub mod PageLines
pub mod Pages
pub mod Ends

-- each page of the sheet has a closing
begun : (j n : ℕ) → j < page_count n → 48 * j < n
unfolding page_count
begun j n h = omega arith

module _ (fs : List Figures) where
  abbrev ls : List Bytes
  ls = sheet_lines fs

  -- page j
  module _ (j : ℕ) where
    abbrev here : List Figures
    here = on_page j fs

    short : length here ≤ 48
    short = page_short (drop (48 * j) fs)

    -- 48 closings, or those that are left
    closings : length here ≡ min 48 (length fs - 48 * j)
    closings = length-take 48 (drop (48 * j) fs) ∙ ap (min 48) (length-drop (48 * j) fs)

    module _ (h : j < page_count (length fs)) where
      line_of_page : (r : ℕ) → r < 50 → get_or ls (50 * j + r) [] ≡ text_of (get_or (page_lines here) r [])
      line_of_page r k = sheet_line fs j r (begun j (length fs) h) k

      heading_line : get_or ls (50 * j) [] ≡ heading_text
      heading_line =
          let e : 50 * j ≡ 50 * j + 0 = omega arith in
          ap (λ m. get_or ls m []) e ∙ line_of_page 0 (omega arith) ∙ ap text_of (heading_at here) ∙ heading_read

      totals_text : get_or ls (50 * j + 49) [] ≡ text_of (totals_line here)
      totals_text = line_of_page 49 (omega arith) ∙ ap text_of (totals_at here short)

  line_length : (n : ℕ) → n < length ls → length (get_or ls n []) ≡ 24
  line_length n h =
      let j = n / 50 in
      let e : n ≡ 50 * j + n % 50 = omega arith in
      ap (λ m. length (get_or ls m [])) e
      ∙ ap length (line_of_page j (omega (arith, sheet_length fs)) (n % 50) (omega arith))
      ∙ text_length (here j) (short j) (n % 50) (omega arith)

  -- place i of the sheet, a closing's or one filled with spaces: its page, its place there, and its line
  module _ (i : ℕ) where
    abbrev page_at : ℕ
    page_at = i / 48

    abbrev place : ℕ
    place = i % 48

    place_line : page_at < page_count (length fs) → get_or ls (50 * page_at + 1 + place) [] ≡ text_of (get_or (page_lines (here page_at)) (suc place) [])
    place_line h =
        let e : 50 * page_at + 1 + place ≡ 50 * page_at + suc place = omega arith in
        ap (λ m. get_or ls m []) e ∙ line_of_page page_at h (suc place) (omega arith)

    place_closing : (none : Figures) → get_or (here page_at) place none ≡ get_or fs i none
    place_closing none =
        let before = 48 * page_at in
        let e : before + place ≡ i = omega arith in
        get_or-take 48 (drop before fs) place none (omega arith) ∙ get_or-drop before fs place none ∙ ap (λ m. get_or fs m none) e

    slot_text : (none : Figures) → i < length fs → get_or ls (50 * page_at + 1 + place) [] ≡ text_of (slot_line (get_or fs i none))
    unfolding page_count
    slot_text none h =
        place_line (omega arith)
        ∙ ap text_of (slot_at (here page_at) place none (omega (arith, closings page_at)) ∙ ap slot_line (place_closing none))

    blank_text : length fs ≤ i → i < 48 * page_count (length fs) → get_or ls (50 * page_at + 1 + place) [] ≡ text_of blank_line
    blank_text h k =
        place_line (omega arith) ∙ ap text_of (blank_at (here page_at) (short page_at) place (omega (arith, closings page_at)) (omega arith))

  -- the figures that are read are those of the closings
  module _ (h : every fits fs ≡ true) where
    slot_of : (i : ℕ) (none : Figures) → i < length fs → SlotLine (get_or fs i none) (get_or ls (50 * (i / 48) + 1 + i % 48) [])
    slot_of i none k =
        let f = get_or fs i none in
        subst (SlotLine f) (sym (slot_text i none k)) (slot_read f (fitting f (every_at fits fs i none h k)))

    page_fits : (j : ℕ) → every fits (here j) ≡ true
    page_fits j = every_take fits 48 (drop (48 * j) fs) (every_drop fits (48 * j) fs h)

    totals_of : (j : ℕ) → j < page_count (length fs) → TotalsLine (here j) (get_or ls (50 * j + 49) [])
    totals_of j k = subst (TotalsLine (here j)) (sym (totals_text j k)) (totals_read (here j) (page_fits j) (short j))

pub sheet_of : (fs : List Figures) → every fits fs ≡ true → SheetOf fs (lines (flatten (pages fs)))
sheet_of fs h =
    record {
      line_count = sheet_length fs;
      line_length = line_length fs;
      headings = heading_line fs;
      slots = slot_of fs h;
      filled = λ i k m. subst (Blank 1 24) (sym (blank_text fs i k m)) blank_read;
      totals = totals_of fs h;
    }

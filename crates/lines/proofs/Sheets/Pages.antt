-- The pages of closings: page j holds 48 of them from the closing 48j on, and has 50 lines.
use mathlib.Core.Path.{◌≡◌, refl, ap, ◌∙◌}
use mathlib.Core.List.{List, [], ◌∷◌, ◌++◌, map, flatten, flat_map}
use Prim.Native.Nat.{ℕ, zero, suc, ◌+◌, ◌*◌, ◌≤◌, ◌<◌}
use native.Mathlib.Omega.{arith}
use lib.ListN.{length, take, drop, get_or, length-append, length-take, length-drop, get_or-append}
use lib.Seq.{get_or-append-add, drop-drop}
use Rattle.lines.specs.Bytes.{Bytes, lines}
use Rattle.lines.specs.Sheet.{Figures, page_slots, page_lines, page, cut_in_pages, pages}
use Rattle.lines.specs.SheetReadBack.{page_count}
use Rattle.lines.proofs.Cutting.{lines_none}
use Rattle.lines.proofs.Sheets.Columns.{text_of}
use Rattle.lines.proofs.Sheets.PageLines.{page_texts, page_cut, text_at, page_length}

-- the closings on page j
abbrev pub on_page : ℕ → List Figures → List Figures
on_page j fs = take 48 (drop (48 * j) fs)

-- no page has more than 48, and each has 50 lines
pub page_short : (l : List Figures) → length (take 48 l) ≤ 48
page_short l = omega (arith, length-take 48 l)

page_long : (l : List Figures) → length (page_texts (take 48 l)) ≡ 50
page_long l = page_length (take 48 l) (page_short l)

-- the lines of pages without their ends
abbrev pub texts : List (List Figures) → List Bytes
texts ps = flat_map page_texts ps

pages_cut : (ps : List (List Figures)) → lines (flatten (map page ps)) ≡ texts ps
unfolding flatten flat_map
pages_cut [] = lines_none
pages_cut (p ∷ ps) = page_cut p (flatten (map page ps)) ∙ ap (page_texts p ++◌) (pages_cut ps)

-- with as many pages as there are closings, or more, none is left out
texts_length : (n : ℕ) (fs : List Figures) → length fs ≤ n → length (texts (cut_in_pages n fs)) ≡ 50 * page_count (length fs)
unfolding flat_map cut_in_pages page_count page_slots
texts_length zero [] h = refl
texts_length zero (f ∷ fs) h = absurd (omega arith)
texts_length (suc n) [] h = refl
texts_length (suc n) (f ∷ fs) h =
    let first = take 48 (f ∷ fs) in
    let rest = drop 48 (f ∷ fs) in
    omega (
      arith,
      length-append (page_texts first) (texts (cut_in_pages n rest)),
      page_long (f ∷ fs),
      length-drop 48 (f ∷ fs),
      texts_length n rest (omega (arith, length-drop 48 (f ∷ fs))),
    )

-- line r of page j
text_in : (n : ℕ) (fs : List Figures) → length fs ≤ n → (j r : ℕ) → 48 * j < length fs → r < 50
    → get_or (texts (cut_in_pages n fs)) (50 * j + r) [] ≡ get_or (page_texts (on_page j fs)) r []
unfolding flat_map cut_in_pages page_slots
text_in zero fs h j r k l = absurd (omega arith)
text_in (suc n) [] h j r k l = absurd (omega arith)
text_in (suc n) (f ∷ fs) h zero r k l =
    let first = page_texts (take 48 (f ∷ fs)) in
    let rest = texts (cut_in_pages n (drop 48 (f ∷ fs))) in
    let e : 50 * zero + r ≡ r = omega arith in
    ap (λ m. get_or (first ++ rest) m []) e ∙ get_or-append first rest [] r (omega (arith, page_long (f ∷ fs)))
text_in (suc n) (f ∷ fs) h (suc j) r k l =
    let first = page_texts (take 48 (f ∷ fs)) in
    let others = drop 48 (f ∷ fs) in
    let rest = texts (cut_in_pages n others) in
    let long = length-drop 48 (f ∷ fs) in
    let e : 50 * suc j + r ≡ length first + (50 * j + r) = omega (arith, page_long (f ∷ fs)) in
    let same : 48 + 48 * j ≡ 48 * suc j = omega arith in
    ap (λ m. get_or (first ++ rest) m []) e
    ∙ get_or-append-add first rest (50 * j + r) []
    ∙ text_in n others (omega (arith, long)) j r (omega (arith, long)) l
    ∙ ap (λ p. get_or (page_texts (take 48 p)) r []) (drop-drop (48 * j) 48 (f ∷ fs) ∙ ap (λ m. drop m (f ∷ fs)) same)

module _ (fs : List Figures) where
  -- the lines of the sheet
  abbrev pub sheet_lines : List Bytes
  sheet_lines = lines (flatten (pages fs))

  pub sheet_cut : sheet_lines ≡ texts (cut_in_pages (length fs) fs)
  unfolding pages
  sheet_cut = pages_cut (cut_in_pages (length fs) fs)

  pub sheet_length : length sheet_lines ≡ 50 * page_count (length fs)
  sheet_length = ap length sheet_cut ∙ texts_length (length fs) fs (omega arith)

  -- line r of page j without its end
  pub sheet_line : (j r : ℕ) → 48 * j < length fs → r < 50 → get_or sheet_lines (50 * j + r) [] ≡ text_of (get_or (page_lines (on_page j fs)) r [])
  sheet_line j r h k = ap (λ ls. get_or ls (50 * j + r) []) sheet_cut ∙ text_in (length fs) fs (omega arith) j r h k ∙ text_at (on_page j fs) r

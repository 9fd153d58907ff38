-- A page: 50 whole lines, cut off from what stands behind the page; and which line is which.
use mathlib.Core.Path.{◌≡◌, refl, ap, ◌∙◌}
use mathlib.Core.Bool.{true}
use mathlib.Core.List.{List, [], ◌∷◌, ◌++◌, map, flatten, append_assoc}
use Prim.Native.Nat.{ℕ, suc, ◌+◌, ◌-◌, ◌≤◌, ◌<◌}
use native.Mathlib.Omega.{arith}
use lib.ListN.{length, get_or, replicate, length-append, length-map, length-replicate, get_or-replicate, get_or-append, get_or-map}
use lib.Seq.{get_or-append-add, get_or_at}
use Rattle.lists.specs.Select.{every}
use Rattle.lists.proofs.Tests.{and_left, and_right, and_intro}
use Rattle.lists.proofs.Members.{every_append}
use Rattle.lists.proofs.Every.{every_at, every_replicate, every_map}
use Rattle.lists.proofs.Parts.{map_at}
use Rattle.lines.specs.Bytes.{Bytes, lines}
use Rattle.lines.specs.Sheet.{Figures, line_columns, slot_line, heading, totals_line, blank_line, page_slots, page_lines, page}
use Rattle.lines.proofs.Sheets.Columns.{text_of}
use Rattle.lines.proofs.Sheets.Cells.{whole, whole_length, whole_cut}
use Rattle.lines.proofs.Sheets.LineKinds.{slot_whole, totals_whole, blank_whole, heading_whole}

-- whole lines are cut off from what stands behind them
lines_cut : (ls : List Bytes) (rest : Bytes) → every whole ls ≡ true → lines (flatten ls ++ rest) ≡ map text_of ls ++ lines rest
unfolding flatten every
lines_cut [] rest h = refl
lines_cut (l ∷ ls) rest h =
    ap lines (append_assoc l (flatten ls) rest)
    ∙ whole_cut l (and_left (whole l) (every whole ls) h) (flatten ls ++ rest)
    ∙ ap (text_of l ∷◌) (lines_cut ls rest (and_right (whole l) (every whole ls) h))

module _ (fs : List Figures) where
  -- the lines behind the heading: slots, lines of spaces, and the totals
  abbrev slots : List Bytes
  slots = map slot_line fs

  abbrev blanks : List Bytes
  blanks = replicate (page_slots - length fs) blank_line

  abbrev last_lines : List Bytes
  last_lines = blanks ++ (totals_line fs ∷ [])

  pub page_whole : every whole (page_lines fs) ≡ true
  unfolding page_lines every
  page_whole =
      and_intro (whole heading) (every whole (slots ++ last_lines)) heading_whole
      (every_append whole slots last_lines (every_map whole slot_line slot_whole fs)
      (every_append whole blanks (totals_line fs ∷ []) (every_replicate whole (page_slots - length fs) blank_line blank_whole)
      (and_intro (whole (totals_line fs)) true (totals_whole fs) refl)))

  -- the lines of a page without their ends
  abbrev pub page_texts : List Bytes
  page_texts = map text_of (page_lines fs)

  pub page_cut : (rest : Bytes) → lines (page fs ++ rest) ≡ page_texts ++ lines rest
  unfolding page
  page_cut rest = lines_cut (page_lines fs) rest page_whole

  -- line r of the page without its end
  pub text_at : (r : ℕ) → get_or page_texts r [] ≡ text_of (get_or (page_lines fs) r [])
  unfolding line_columns
  text_at r = get_or-map text_of (page_lines fs) r []

  pub heading_at : get_or (page_lines fs) 0 [] ≡ heading
  unfolding page_lines
  heading_at = refl

  pub slot_at : (i : ℕ) (none : Figures) → i < length fs → get_or (page_lines fs) (suc i) [] ≡ slot_line (get_or fs i none)
  unfolding page_lines
  slot_at i none h = get_or-append slots last_lines [] i (omega (arith, length-map fs slot_line)) ∙ map_at slot_line fs i none [] h

  -- a page of no more than 48 closings
  module _ (short : length fs ≤ 48) where
    pub page_length : length page_texts ≡ 50
    unfolding page_lines page_slots
    page_length =
        omega (
          arith,
          length-map (page_lines fs) text_of,
          length-append slots last_lines,
          length-map fs slot_line,
          length-append blanks (totals_line fs ∷ []),
          length-replicate (page_slots - length fs) blank_line,
        )

    pub text_length : (r : ℕ) → r < 50 → length (text_of (get_or (page_lines fs) r [])) ≡ 24
    text_length r h =
        let l = get_or (page_lines fs) r [] in
        whole_length l (every_at whole (page_lines fs) r [] page_whole (omega (arith, page_length, length-map (page_lines fs) text_of)))

    -- behind the slots
    behind_slots : (i : ℕ) → length fs ≤ i → get_or (page_lines fs) (suc i) [] ≡ get_or last_lines (i - length fs) []
    unfolding page_lines
    behind_slots i h =
        let e : i ≡ length slots + (i - length fs) = omega (arith, length-map fs slot_line) in
        ap (λ n. get_or (slots ++ last_lines) n []) e ∙ get_or-append-add slots last_lines (i - length fs) []

    pub blank_at : (i : ℕ) → length fs ≤ i → i < 48 → get_or (page_lines fs) (suc i) [] ≡ blank_line
    unfolding page_slots
    blank_at i h k =
        let n = page_slots - length fs in
        behind_slots i h
        ∙ get_or-append blanks (totals_line fs ∷ []) [] (i - length fs) (omega (arith, length-replicate n blank_line))
        ∙ get_or-replicate n (i - length fs) blank_line [] (omega arith)

    pub totals_at : get_or (page_lines fs) 49 [] ≡ totals_line fs
    unfolding page_slots
    totals_at = behind_slots 48 short ∙ get_or_at blanks (totals_line fs) [] [] (48 - length fs) (length-replicate (page_slots - length fs) blank_line)

-- Every line of the sheet has its line end.
use mathlib.Core.Path.{◌≡◌, refl, sym, ap, ap₂, ◌∙◌}
use mathlib.Core.Bool.{true}
use mathlib.Core.List.{List, [], ◌∷◌, ◌++◌, map, flatten, flat_map, append_assoc}
use lib.ListN.{length}
use Rattle.lists.specs.Select.{every}
use Rattle.lists.proofs.Tests.{and_left, and_right}
use Rattle.lines.specs.Bytes.{Bytes, line_end, lines}
use Rattle.lines.specs.Sheet.{Figures, page_lines, page, cut_in_pages, pages}
use Rattle.lines.proofs.Sheets.Columns.{text_of}
use Rattle.lines.proofs.Sheets.Cells.{whole, whole_ends}
use Rattle.lines.proofs.Sheets.PageLines.{page_whole, page_texts}
use Rattle.lines.proofs.Sheets.Pages.{texts, sheet_cut}

abbrev with_ends : List Bytes → Bytes
with_ends ls = flat_map (λ l. l ++ (line_end ∷ [])) ls

with_ends_append : (first rest : List Bytes) → with_ends (first ++ rest) ≡ with_ends first ++ with_ends rest
unfolding flat_map
with_ends_append [] rest = refl
with_ends_append (l ∷ first) rest =
    let here = l ++ (line_end ∷ []) in
    ap (here ++◌) (with_ends_append first rest) ∙ sym (append_assoc here (with_ends first) (with_ends rest))

lines_end : (ls : List Bytes) → every whole ls ≡ true → flatten ls ≡ with_ends (map text_of ls)
unfolding flatten flat_map every
lines_end [] h = refl
lines_end (l ∷ ls) h = ap₂ (λ (x y : Bytes). x ++ y) (whole_ends l (and_left (whole l) (every whole ls) h)) (lines_end ls (and_right (whole l) (every whole ls) h))

pages_end : (ps : List (List Figures)) → flatten (map page ps) ≡ with_ends (texts ps)
unfolding flatten flat_map page
pages_end [] = refl
pages_end (p ∷ ps) =
    ap₂ (λ (x y : Bytes). x ++ y) (lines_end (page_lines p) (page_whole p)) (pages_end ps)
    ∙ sym (with_ends_append (page_texts p) (texts ps))

pub sheet_ended : (fs : List Figures) → flatten (pages fs) ≡ with_ends (lines (flatten (pages fs)))
unfolding pages
sheet_ended fs = pages_end (cut_in_pages (length fs) fs) ∙ sym (ap with_ends (sheet_cut fs))

-- The columns of a line that is made of cells: what stands in a cell's field, and the spaces before it.
use mathlib.Core.Path.{◌≡◌, refl, sym, ap, ◌∙◌}
use mathlib.Core.List.{List, [], ◌∷◌, ◌++◌, append_assoc}
use Prim.Native.Nat.{ℕ, ◌+◌, ◌-◌, ◌≤◌, ◌<◌}
use native.Mathlib.Omega.{arith}
use lib.ListN.{length, take, drop, replicate, length-append, length-replicate, replicate-append-replicate}
use lib.Seq.{take_at, drop_at, drop-append_seam, drop-drop, take-take}
use Rattle.lists.proofs.Parts.{drop_take}
use Rattle.lines.specs.Bytes.{Bytes}
use Rattle.lines.specs.Fields.{value}
use Rattle.lines.specs.Printing.{decimal}
use Rattle.lines.specs.Sheet.{space, line_columns, to_right, Cell, line_behind, line_with}
use Rattle.lines.specs.SheetReadBack.{columns, past_spaces, Stands, Blank}
use Rattle.lines.proofs.Decimals.{value_decimal}
use Rattle.lines.proofs.Sheets.Right.{right_length, right_short, past_to_digits}

-- a line without its end
abbrev pub text_of : Bytes → Bytes
text_of l = take line_columns l

-- bytes y that stand in these columns: behind column k the line has x, y and z
module _ (from to : ℕ) (l x y z : Bytes) (k : ℕ) where
  between : drop k l ≡ x ++ (y ++ z) → k + length x + 1 ≡ from → from + length y ≡ to + 1 → to ≤ line_columns → columns from to (text_of l) ≡ y
  unfolding columns
  between h i j w =
      let e : from - 1 ≡ k + length x = omega arith in
      let rest : drop (from - 1) l ≡ y ++ z =
      ap (λ n. drop n l) e ∙ sym (drop-drop (length x) k l) ∙ ap (drop (length x)) h ∙ drop-append_seam x (y ++ z) in
      ap (drop (from - 1)) (take-take to line_columns l w)
      ∙ drop_take (from - 1) to l
      ∙ ap (take (to - (from - 1))) rest
      ∙ take_at y z (to - (from - 1)) (omega arith)

-- the line from behind column k on is that of these cells
pub record Behind (k : ℕ) (cs : List Cell) (l : Bytes) : Type 0 where
  pub cells : drop k l ≡ line_behind k cs

-- a line of cells, from its first column on
pub from_start : (cs : List Cell) → Behind 0 cs (line_with cs)
unfolding line_with
from_start cs = record { cells = refl }

module _ {k : ℕ} {c : Cell} {cs : List Cell} {l : Bytes} (h : Behind k (c ∷ cs) l) where
  -- behind the first cell it is that of the others
  pub next_cell : k ≤ c.last → Behind c.last cs l
  unfolding line_behind
  next_cell i =
      let w = c.last - k in
      let e : k + w ≡ c.last = omega arith in
      let rest = drop_at (to_right w c.text) (line_behind c.last cs) w (right_length w c.text) in
      record { cells = ap (λ n. drop n l) (sym e) ∙ sym (drop-drop w k l) ∙ ap (drop w) h.cells ∙ rest }

  -- the text fits between a column and the cell's last, and these are columns of the line
  module _ (from : ℕ) (i : k < from) (j : from + length c.text ≤ c.last + 1) (w : c.last ≤ line_columns) where
    abbrev spaces_before : ℕ
    spaces_before = from - 1 - k

    abbrev spaces_within : ℕ
    spaces_within = c.last + 1 - from - length c.text

    abbrev in_field : Bytes
    in_field = replicate spaces_within space ++ c.text

    parted : drop k l ≡ replicate spaces_before space ++ (in_field ++ line_behind c.last cs)
    unfolding line_behind
    parted =
        let width = c.last - k in
        let e : width - length c.text ≡ spaces_before + spaces_within = omega arith in
        h.cells
        ∙ ap (◌++ line_behind c.last cs) (
        right_short width c.text (omega arith)
        ∙ ap (λ n. replicate n space ++ c.text) e
        ∙ ap (◌++ c.text) (sym (replicate-append-replicate spaces_before spaces_within space))
        ∙ append_assoc (replicate spaces_before space) (replicate spaces_within space) c.text
        )
        ∙ append_assoc (replicate spaces_before space) in_field (line_behind c.last cs)

    -- spaces stand before the field
    spaces : Blank (k + 1) (from - 1) (text_of l)
    unfolding Blank
    spaces =
        let e : spaces_before ≡ from - 1 + 1 - (k + 1) = omega arith in
        between (k + 1) (from - 1) l [] (replicate spaces_before space) (in_field ++ line_behind c.last cs) k parted (omega arith)
        (omega (arith, length-replicate spaces_before space)) (omega arith)
        ∙ ap (λ n. replicate n space) e

    -- and in it more spaces and the text
    field_read : columns from c.last (text_of l) ≡ in_field
    field_read =
        between from c.last l (replicate spaces_before space) in_field (line_behind c.last cs) k parted
        (omega (arith, length-replicate spaces_before space)) (omega (arith, length-append (replicate spaces_within space) c.text, length-replicate spaces_within space)) w

    -- a number's digits are read as that number
    pub field : (n : ℕ) → c.text ≡ decimal n → Blank (k + 1) (from - 1) (text_of l) × Stands from c.last (text_of l) n
    field n e =
        let found = ap past_spaces (field_read ∙ ap (replicate spaces_within space ++◌) e) ∙ past_to_digits spaces_within n in
        (spaces, record { digits = found; number = ap value found ∙ value_decimal n })

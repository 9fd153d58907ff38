-- A line of cells: 24 bytes, none of which ends a line, and a line end.
use mathlib.Core.Path.{◌≡◌, refl, sym, ap, ◌∙◌}
use mathlib.Core.Bool.{Bool, true, ◌&&◌}
use mathlib.Core.List.{List, [], ◌∷◌, ◌++◌, append_assoc}
use Prim.Native.Nat.{ℕ, ◌+◌, ◌-◌}
use native.Mathlib.Omega.{arith}
use lib.Dec.{leb, eqb}
use lib.ListN.{length, get_or, replicate, length-append, length-replicate}
use lib.Seq.{take_at, get_or_at, take-suc, take_all, length-take-le}
use borrow.Author.Tests.{leb-true, eqb-true, eq-eqb}
use Rattle.lists.specs.Select.{every}
use Rattle.lists.proofs.Tests.{and_left, and_right, and_intro}
use Rattle.lists.proofs.Members.{every_append}
use Rattle.lists.proofs.Every.{every_replicate}
use Rattle.lines.specs.Bytes.{Bytes, line_end, lines}
use Rattle.lines.specs.Sheet.{space, line_columns, to_right, Cell, line_behind, line_with}
use Rattle.lines.proofs.Cutting.{one_line, lines_ended}
use Rattle.lines.proofs.Sheets.Right.{right_length, right_every}
use Rattle.lines.proofs.Sheets.Columns.{text_of}

-- 24 bytes, none of which ends a line, and one that does
abbrev pub of_25 : Bytes → Bool
of_25 l = one_line (text_of l) && eqb (length l) 25

abbrev pub whole : Bytes → Bool
whole l = of_25 l && eqb (get_or l line_columns 0) line_end

-- no cell's last column is before the one before, nor past the line's end
unfoldable pub in_order : ℕ → List Cell → Bool
in_order k [] = leb k line_columns
in_order k (c ∷ cs) = leb k c.last && in_order c.last cs

abbrev pub on_one_line : Cell → Bool
on_one_line c = one_line c.text

-- the bytes behind column k: those up to the last column, and a line end
record Ended (k : ℕ) (l : Bytes) : Type 0 where
  text : Bytes
  parted : l ≡ text ++ (line_end ∷ [])
  long : k + length text ≡ line_columns
  single : one_line text ≡ true

ended : (k : ℕ) (cs : List Cell) → in_order k cs ≡ true → every on_one_line cs ≡ true → Ended k (line_behind k cs)
unfolding line_behind in_order every space line_end
ended k [] h i =
    let w = line_columns - k in
    record {
      text = replicate w space;
      parted = refl;
      long = omega (arith, length-replicate w space, leb-true k line_columns h);
      single = every_replicate _ w space refl;
    }
ended k (c ∷ cs) h i =
    let start = to_right (c.last - k) c.text in
    let rest = ended c.last cs (and_right (leb k c.last) (in_order c.last cs) h) (and_right (on_one_line c) (every on_one_line cs) i) in
    let up = leb-true k c.last (and_left (leb k c.last) (in_order c.last cs) h) in
    record {
      text = start ++ rest.text;
      parted = ap (start ++◌) rest.parted ∙ sym (append_assoc start rest.text (line_end ∷ []));
      long = omega (arith, up, rest.long, right_length (c.last - k) c.text, length-append start rest.text);
      single =
          every_append _ start rest.text
          (right_every (c.last - k) c.text _ refl (and_left (on_one_line c) (every on_one_line cs) i)) rest.single;
    }

whole_ended : (t : Bytes) → length t ≡ line_columns → one_line t ≡ true → whole (t ++ (line_end ∷ [])) ≡ true
unfolding line_columns
whole_ended t e h =
    let l = t ++ (line_end ∷ []) in
    and_intro (of_25 l) (eqb (get_or l line_columns 0) line_end)
    (and_intro (one_line (text_of l)) (eqb (length l) 25) (ap one_line (take_at t (line_end ∷ []) line_columns e) ∙ h)
    (eq-eqb (length l) 25 (omega (arith, length-append t (line_end ∷ [])))))
    (eq-eqb (get_or l line_columns 0) line_end (get_or_at t line_end [] 0 line_columns e))

pub whole_line : (cs : List Cell) → in_order 0 cs ≡ true → every on_one_line cs ≡ true → whole (line_with cs) ≡ true
unfolding line_with
whole_line cs h i = let e = ended 0 cs h i in ap whole e.parted ∙ whole_ended e.text (omega (arith, e.long)) e.single

-- what a whole line tells
module _ (l : Bytes) (h : whole l ≡ true) where
  both : of_25 l ≡ true
  both = and_left (of_25 l) (eqb (get_or l line_columns 0) line_end) h

  long : length l ≡ 25
  long = eqb-true (length l) 25 (and_right (one_line (text_of l)) (eqb (length l) 25) both)

  pub whole_length : length (text_of l) ≡ 24
  unfolding line_columns
  whole_length = length-take-le 24 l (omega (arith, long))

  parted : l ≡ text_of l ++ (get_or l line_columns 0 ∷ [])
  unfolding line_columns
  parted = sym (take_all 25 l (omega (arith, long))) ∙ take-suc l 24 0 (omega (arith, long))

  -- the byte behind the last column ends the line
  pub whole_ends : l ≡ text_of l ++ (line_end ∷ [])
  whole_ends =
      let last = get_or l line_columns 0 in
      parted ∙ ap (λ b. text_of l ++ (b ∷ [])) (eqb-true last line_end (and_right (of_25 l) (eqb last line_end) h))

  -- it is cut off from what stands behind it
  pub whole_cut : (rest : Bytes) → lines (l ++ rest) ≡ text_of l ∷ lines rest
  whole_cut rest =
      let last = get_or l line_columns 0 in
      ap (λ k. lines (k ++ rest)) parted
      ∙ ap lines (append_assoc (text_of l) (last ∷ []) rest)
      ∙ lines_ended (text_of l) rest last (and_left (one_line (text_of l)) (eqb (length l) 25) both) (and_right (of_25 l) (eqb last line_end) h)

-- The lines of a page: one for each place, a closing's or one of spaces.
use mathlib.Core.Path.{◌≡◌, refl, ap, sym, ◌∙◌}
use mathlib.Core.List.{List, [], ◌∷◌, ◌++◌, map, flatten, append-nil, append_assoc}
use Prim.Native.Nat.{ℕ, zero, suc, ◌-◌, ◌≤◌, ◌<◌}
use native.Mathlib.Omega.{arith}
use lib.ListN.{length, get_or, drop, replicate, length-map, length-append, length-replicate, drop_of_length-le, get_or-eq_default, get_or-map}
use lib.Seq.{drop-cons}
use Rattle.lines.specs.Bytes.{Bytes}
use Rattle.lines.specs.Sheet.{Figures, page_slots, slot_line, blank_line, heading, totals_line, page_lines, page}
use Rattle.page.specs.declared.Figures.{Figures as FiguresHeld}
use Rattle.page.specs.Pages.{figures_held}
use Rattle.sheet.specs.Inner.Lines.{slot_lines}

-- an element of a list mapped, whatever stands for elements past the ends
getD_map_in : {A B : Type 0} (f : A → B) (l : List A) (i : ℕ) (d : A) (e : B) → i < length l → get_or (map f l) i e ≡ f (get_or l i d)
getD_map_in f [] i d e h = absurd (omega arith)
getD_map_in f (a ∷ l) zero d e h = refl
getD_map_in f (a ∷ l) (suc i) d e h = getD_map_in f l i d e (omega arith)

-- past its end a list may be filled with what stands for elements there
getD_filled : {A : Type 0} (l : List A) (n i : ℕ) (d : A) → get_or (l ++ replicate n d) i d ≡ get_or l i d
getD_filled [] zero i d = refl
getD_filled [] (suc n) zero d = refl
getD_filled [] (suc n) (suc i) d = getD_filled [] n i d
getD_filled (a ∷ l) n zero d = refl
getD_filled (a ∷ l) n (suc i) d = getD_filled l n i d

flatten_append : {A : Type 0} (k l : List (List A)) → flatten (k ++ l) ≡ flatten k ++ flatten l
unfolding flatten
flatten_append [] l = refl
flatten_append (a ∷ k) l = ap (λ (r : List _). a ++ r) (flatten_append k l) ∙ sym (append_assoc a (flatten k) (flatten l))

module _ (l : List FiguresHeld) (i : ℕ) where
  -- the line at a place with a closing, and at one without
  pub closing_line : (d : FiguresHeld) → i < length l → get_or (map slot_line (map figures_held l)) i blank_line ≡ slot_line (figures_held (get_or l i d))
  closing_line d h =
      let h' : i < length (map figures_held l) = rw length-map h in
      getD_map_in slot_line (map figures_held l) i (figures_held d) blank_line h' ∙ ap slot_line (get_or-map figures_held l i d)

  pub no_closing_line : length l ≤ i → get_or (map slot_line (map figures_held l)) i blank_line ≡ blank_line
  no_closing_line h = get_or-eq_default (map slot_line (map figures_held l)) blank_line (rw (length-map, length-map) h)

module _ (fs : List Figures) where
  line_count : length fs ≤ page_slots → length (slot_lines fs) ≡ page_slots
  unfolding slot_lines
  line_count h =
      omega (
        arith,
        length-append (map slot_line fs) (replicate (page_slots - length fs) blank_line),
        length-map fs slot_line,
        length-replicate (page_slots - length fs) blank_line,
      )

  line_at : (i : ℕ) → get_or (slot_lines fs) i blank_line ≡ get_or (map slot_line fs) i blank_line
  unfolding slot_lines
  line_at i = getD_filled (map slot_line fs) (page_slots - length fs) i blank_line

  module _ (few : length fs ≤ page_slots) (i : ℕ) where
    -- the line of a place, and those behind it
    pub next_line : i < page_slots → flatten (drop i (slot_lines fs)) ≡ get_or (map slot_line fs) i blank_line ++ flatten (drop (suc i) (slot_lines fs))
    unfolding flatten
    next_line h = rw (drop-cons (slot_lines fs) i blank_line (omega (arith, line_count few)), line_at i)

    pub no_line : page_slots ≤ i → flatten (drop i (slot_lines fs)) ≡ []
    unfolding flatten
    no_line h = ap flatten (drop_of_length-le (slot_lines fs) {i = i} (omega (arith, line_count few)))

  -- heading, lines and totals
  pub page_parts : page fs ≡ heading ++ (flatten (slot_lines fs) ++ totals_line fs)
  unfolding page page_lines flatten slot_lines
  page_parts =
      let lines = map slot_line fs in
      let blank = replicate (page_slots - length fs) blank_line in
      let last : flatten (totals_line fs ∷ []) ≡ totals_line fs = append-nil (totals_line fs) in
      ap (λ (r : Bytes). heading ++ r)
      (ap flatten (sym (append_assoc lines blank (totals_line fs ∷ []))) ∙ flatten_append (lines ++ blank) (totals_line fs ∷ []) ∙ ap (λ (r : Bytes). flatten (lines ++ blank) ++ r) last)

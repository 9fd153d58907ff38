-- The lines of slots that are left to be printed.
use mathlib.Core.Path.{◌≡◌, sym, ap, ap₂, ◌∙◌}
use mathlib.Core.List.{List, [], ◌∷◌, ◌++◌}
use Prim.Native.Nat.{ℕ, ◌+◌, ◌≤◌, ◌<◌}
use native.Mathlib.Numerals.{add-one}
use lib.ListN.{length, get_or, drop, drop_of_length-le}
use lib.Seq.{drop-cons}
use Rattle.lines.specs.Bytes.{Bytes, letter_H}
use Rattle.lines.specs.Printing.{printed}
use Rattle.worklist.specs.Output.{printed_slots}

module _ (slots : List ℕ) (i : ℕ) where
  -- those of the jobs from the i-th on
  abbrev pub left_from : Bytes
  left_from = printed_slots (i + 1) (drop i slots)

  pub slots_next : i < length slots → left_from ≡ printed letter_H ((i + 1) ∷ get_or slots i 0 ∷ []) ++ printed_slots (i + 1 + 1) (drop (i + 1) slots)
  unfolding printed_slots
  slots_next h =
      ap (printed_slots (i + 1)) (drop-cons slots i 0 h)
      ∙ ap₂ (λ n m. printed letter_H ((i + 1) ∷ get_or slots i 0 ∷ []) ++ printed_slots n (drop m slots)) (sym (add-one (i + 1))) (sym (add-one i))

  pub slots_done : length slots ≤ i → left_from ≡ []
  unfolding printed_slots
  slots_done h = ap (printed_slots (i + 1)) (drop_of_length-le slots {i = i} h)

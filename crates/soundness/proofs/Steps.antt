-- What one step of a loop does to what is left of the places.
use mathlib.Core.Path.{◌≡◌, sym}
use mathlib.Core.Bool.{Bool, ◌&&◌, and-true, and_assoc}
use mathlib.Core.List.{List, []}
use Prim.Native.Nat.{ℕ, suc, ◌+◌, ◌^◌, ◌≤◌, ◌<◌}
use native.Mathlib.Numerals.{add-one}
use lib.ListN.{length, get_or, drop, drop_of_length-le}
use lib.Seq.{drop-cons}
use Rattle.lists.specs.Select.{every}
use Rattle.board.specs.declared.Place.{Place}
use Rattle.board.specs.declared.Board.{Board}
use Rattle.board.specs.Held.{slot_of, blank}
use Rattle.soundness.specs.declared.Seen.{Seen}
use Rattle.soundness.specs.Inner.Walk.{seen_with, all_well}

module _ {A : Type 0} (p : A → Bool) (l : List A) (i : ℕ) where
  -- the test of the next element goes into the flag
  pub every_step : (g : Bool) (d : A) → i < length l → (g && p (get_or l i d) && every p (drop (i + 1) l)) ≡ (g && every p (drop i l))
  unfolding every
  every_step g d h = rw (add-one, drop-cons l i d) (and_assoc g (p (get_or l i d)) (every p (drop (suc i) l)))

  -- no element is left
  pub every_done : (g : Bool) → length l ≤ i → g ≡ (g && every p (drop i l))
  unfolding every
  every_done g h = rw (drop_of_length-le l h) (sym (and-true g))

module _ (b : Board) (s : Seen) (l : List Place) (i : ℕ) where
  -- the next job goes into what is seen; g is the number of grades, as the code has it
  pub walk_step : (r : Seen) (g : ℕ) → g ≡ 2 ^ b.depth → i < length l → r ≡ seen_with (slot_of b) g s (get_or l i blank)
      → all_well b r (drop (i + 1) l) ≡ all_well b s (drop i l)
  unfolding all_well
  walk_step r g e h q = rw (q, e, add-one, drop-cons l i blank)

  -- no job is left
  pub walk_done : length l ≤ i → all_well b s [] ≡ all_well b s (drop i l)
  walk_done h = rw (drop_of_length-le l h)

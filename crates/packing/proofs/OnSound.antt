-- The arrays hold a sound board as it is.
use mathlib.Core.Path.{◌≡◌, refl, ap, ap₂, ◌∙◌}
use mathlib.Core.Bool.{true}
use mathlib.Core.List.Memᴰ
use mathlib.Core.List.{List, [], ◌∷◌, map, Memᴰ}
use Prim.Native.Nat.{ℕ, ◌-◌, ◌^◌, ◌/◌, ◌%◌, ◌<◌, min}
use native.Mathlib.Omega.{arith}
use lib.Pow.{pow_mono}
use lib.ListN.{length, take, drop, replicate, take-append-drop, length-drop}
use Rattle.board.specs.declared.Place.{Place}
use Rattle.board.specs.declared.Board.{Board}
use Rattle.board.specs.Limits.{longest_laxity, places_held, last_slot, deepest}
use Rattle.board.specs.Tally.{tally_grades}
use Rattle.board.specs.Held.{slot_number, job_in, blank, used, held}
use Rattle.board.specs.Sound.{sound}
use Rattle.board.proofs.Soundness.Facts.{SoundFacts}
use Rattle.board.proofs.Soundness.Apart.{facts}
use Rattle.packing.specs.Inner.Packed.{key_of, place_of, in_use, filled_up, packed, packable}

-- a key gives back a last slot and a grade that it can hold
key_last : (l g : ℕ) → l < 2 ^ 29 → g < tally_grades → key_of l g / tally_grades ≡ l
unfolding key_of tally_grades deepest
key_last l g a b = omega (arith, a, b)

key_grade : (l g : ℕ) → g < tally_grades → key_of l g % tally_grades ≡ g
unfolding key_of tally_grades deepest
key_grade l g b = omega (arith, b)

pub packed_whole : (x : Place) → x.last.0 < 2 ^ 29 → x.grade < tally_grades → packed x ≡ x
unfolding packed place_of
packed_whole x a b =
    λ j. record { ticket = x.ticket; admitted = x.admitted; last = slot_number (key_last x.last.0 x.grade a b j); grade = key_grade x.last.0 x.grade b j }

-- what is so of each element is so of all
map_each : {A : Type 0} (f : A → A) (l : List A) → ((x : A) → Memᴰ x l → f x ≡ x) → map f l ≡ l
map_each f [] h = refl
map_each f (a ∷ l) h = ap₂ ◌∷◌ (h a (Memᴰ.head refl)) (map_each f l (λ x m. h x (Memᴰ.tail m)))

all_equal : {A : Type 0} (a : A) (l : List A) → ((x : A) → Memᴰ x l → x ≡ a) → l ≡ replicate (length l) a
all_equal a [] h = refl
all_equal a (b ∷ l) h = ap₂ ◌∷◌ (h b (Memᴰ.head refl)) (all_equal a l (λ x m. h x (Memᴰ.tail m)))

module _ (b : Board) (f : SoundFacts b) where
  -- a place in use
  whole : (x : Place) → Memᴰ x (used b) → packed x ≡ x
  unfolding held job_in longest_laxity last_slot tally_grades
  whole x m =
      let r = f.each (job_in x) (Memᴰ.map job_in m) in
      packed_whole x (omega (arith, r.begun, r.short, f.to_last)) (omega (arith, r.graded, pow_mono f.shallow))

  behind : drop b.count b.places ≡ replicate (places_held - b.count) blank
  behind =
      all_equal blank (drop b.count b.places) f.blank_past
      ∙ (let e : length (drop b.count b.places) ≡ places_held - b.count = omega (arith, length-drop b.count b.places, f.full) in ap (λ n. replicate n blank) e)

  same_places : filled_up (in_use b.count) (map packed (take (in_use b.count) b.places)) ≡ b.places
  unfolding filled_up in_use used
  same_places =
      let e : min b.count places_held ≡ b.count = omega (arith, f.counted) in
      rw (e, map_each packed (used b) whole, ← behind) (take-append-drop b.count b.places)

pub packable_sound : (b : Board) → sound b ≡ true → packable b ≡ b
unfolding packable
packable_sound b s = λ j. record { depth = b.depth; slot = b.slot; highest = b.highest; count = b.count; places = same_places b (facts b s) j }

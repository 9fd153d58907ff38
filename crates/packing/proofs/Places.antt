-- The places that arrays have, and those of the board that they hold.
use mathlib.Core.Path.{◌≡◌, refl, sym, ap, ◌∙◌}
use mathlib.Core.Logic.{⊎_elim}
use mathlib.Core.Bool.{Bool}
use mathlib.Core.List.{List, [], ◌∷◌, ◌++◌}
use Prim.Native.Nat.{ℕ, zero, suc, ◌+◌, ◌-◌, ◌≤◌, ◌<◌, min}
use native.Mathlib.Omega.{arith}
use native.Mathlib.Numerals.{add-one}
use lib.ListN.{length, get_or, set, replicate, length-append, length-replicate, get_or-append}
use lib.Seq.{get_or-append_seam, get_or-set_same, get_or-set_other}
use Rattle.rule.specs.Job.{Job}
use Rattle.lists.proofs.Tests.{cmp}
use Rattle.board.specs.declared.Place.{Place}
use Rattle.board.specs.declared.Board.{Board}
use Rattle.board.specs.Limits.{places_held}
use Rattle.board.specs.Held.{blank, passing, thinned}
use Rattle.board.proofs.Walk.{place_at}
use Rattle.packing.specs.declared.Head.{Head}
use Rattle.packing.specs.Inner.Packed.{place_of, place_in, places_in, in_use, filled_up, board_in}

module _ (K T A : List ℕ) where
  pub places_length : (n : ℕ) → length (places_in n K T A) ≡ n
  unfolding places_in
  places_length zero = refl
  places_length (suc n) = omega (arith, length-append (places_in n K T A) (place_in K T A n ∷ []), places_length n)

  -- one place more
  pub places_more : (n : ℕ) → places_in (n + 1) K T A ≡ places_in n K T A ++ (place_in K T A n ∷ [])
  unfolding places_in
  places_more n = ap (λ k. places_in k K T A) (add-one n)

  pub places_at : (n i : ℕ) → i < n → (d : Place) → get_or (places_in n K T A) i d ≡ place_in K T A i
  unfolding places_in
  places_at zero i h d = elim h [ ]
  places_at (suc n) i h d =
      ⊎_elim
      (λ (e : n ≤ i).
      let same : i ≡ n = omega (arith, e, h) in
      ap (λ k. get_or (places_in n K T A ++ (place_in K T A n ∷ [])) k d) (same ∙ sym (places_length n))
      ∙ get_or-append_seam (places_in n K T A) (place_in K T A n) [] d
      ∙ ap (place_in K T A) (sym same))
      (λ (l : i < n). get_or-append (places_in n K T A) (place_in K T A n ∷ []) d i (omega (arith, l, places_length n)) ∙ places_at n i l d)
      (cmp n i)

-- the arrays have the same below n
pub record Alike (n : ℕ) (K T A K' T' A' : List ℕ) : Type 0 where
  pub keys : (i : ℕ) → i < n → get_or K i 0 ≡ get_or K' i 0
  pub tickets : (i : ℕ) → i < n → get_or T i 0 ≡ get_or T' i 0
  pub admitted : (i : ℕ) → i < n → get_or A i 0 ≡ get_or A' i 0

pub places_alike : (n : ℕ) {K T A K' T' A' : List ℕ} → Alike n K T A K' T' A' → places_in n K T A ≡ places_in n K' T' A'
unfolding places_in
places_alike zero s = refl
places_alike (suc n) {K} {T} {A} {K'} {T'} {A'} s =
    let last : n < suc n = omega arith in
    let less : (i : ℕ) → i < n → i < suc n = λ i h. omega (arith, h) in
    let before : places_in n K T A ≡ places_in n K' T' A'
    = places_alike n (record { keys = λ i h. s.keys i (less i h); tickets = λ i h. s.tickets i (less i h); admitted = λ i h. s.admitted i (less i h) }) in
    rw (before, s.keys n last, s.tickets n last, s.admitted n last) refl

-- a count that the places allow
pub all_in_use : (n : ℕ) → n ≤ places_held → in_use n ≡ n
unfolding in_use
all_in_use n few = omega (arith, few)

module _ (h : Head) (K T A : List ℕ) where
  abbrev places : List Place
  places = places_in (in_use h.count) K T A

  pub few_in_use : in_use h.count ≤ places_held
  unfolding in_use
  few_in_use = omega arith

  -- the board has all its places
  pub board_full : length (board_in h K T A).places ≡ places_held
  unfolding board_in filled_up
  board_full =
      omega (
        arith,
        length-append places (replicate (places_held - in_use h.count) blank),
        length-replicate (places_held - in_use h.count) blank,
        places_length K T A (in_use h.count),
        few_in_use,
      )

  -- a place in use
  pub board_at : (i : ℕ) → i < in_use h.count → place_at (board_in h K T A) i ≡ place_in K T A i
  unfolding board_in filled_up
  board_at i l =
      get_or-append places (replicate (places_held - in_use h.count) blank) blank i (omega (arith, l, places_length K T A (in_use h.count)))
      ∙ places_at K T A (in_use h.count) i l blank

-- a place written behind the first n
pub places_set : (n : ℕ) (K T A : List ℕ) (k t a : ℕ) → n < length K → n < length T → n < length A
    → places_in (n + 1) (set K n k) (set T n t) (set A n a) ≡ places_in n K T A ++ (place_of k t a ∷ [])
places_set n K T A k t a hK hT hA =
    let other : (l : List ℕ) (x i : ℕ) → i < n → get_or (set l n x) i 0 ≡ get_or l i 0 = λ l x i h. get_or-set_other l n i x 0 (omega (arith, h)) in
    places_more (set K n k) (set T n t) (set A n a) n
    ∙ rw (get_or-set_same K n k 0 hK, get_or-set_same T n t 0 hT, get_or-set_same A n a 0 hA)
    (ap (λ ps. ps ++ (place_of k t a ∷ [])) (places_alike n (record { keys = other K k; tickets = other T t; admitted = other A a })))

-- the board once the arrays have the places of the jobs that pass, and no others
pub board_thinned : (b : Board) (test : Job → Bool) (h : Head) (K T A : List ℕ) → h.depth ≡ b.depth → h.highest ≡ b.highest
    → h.count ≡ length (passing b test) → h.count ≤ places_held → places_in h.count K T A ≡ passing b test → board_in h K T A ≡ thinned b h.slot.0 test
unfolding board_in thinned filled_up in_use
board_thinned b test h K T A d t n few e =
    let used : min h.count places_held ≡ h.count = omega (arith, few) in
    λ j.
    record {
      depth = d j;
      slot = h.slot;
      highest = t j;
      count = n j;
      places = (ap (λ m. places_in m K T A ++ replicate (places_held - m) blank) used ∙ ap (λ ps. ps ++ replicate (places_held - h.count) blank) e ∙ ap (λ m. passing b test ++ replicate (places_held - m) blank) n) j;
    }

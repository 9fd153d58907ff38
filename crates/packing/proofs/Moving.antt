-- Places put into arrays and taken out of them, one after the other: what holds after each.
use mathlib.Core.Path.{◌≡◌, sym, ap, ◌∙◌}
use mathlib.Core.List.{List, [], ◌∷◌, ◌++◌, map, map-append}
use Prim.Native.Nat.{ℕ, suc, ◌+◌, ◌-◌, ◌≤◌, ◌<◌, min}
use native.Mathlib.Omega.{arith}
use native.Mathlib.Numerals.{add-one}
use lib.ListN.{length, set, take, replicate, length-set}
use lib.Seq.{take-suc, set_at, append_snoc}
use Rattle.board.specs.declared.Place.{Place}
use Rattle.board.specs.declared.Board.{Board}
use Rattle.board.specs.Limits.{places_held}
use Rattle.board.specs.Held.{blank}
use Rattle.board.proofs.Walk.{place_at}
use Rattle.packing.specs.declared.Head.{Head}
use Rattle.packing.specs.Inner.Packed.{key_of, place_in, places_in, in_use, filled_up, board_in, packed, packable}
use Rattle.packing.proofs.Places.{places_length, places_more, places_set}

-- a place written behind the first n, where a blank one stands
pub filled_set : (n : ℕ) (ps : List Place) (x : Place) → length ps ≡ n → n < places_held → set (filled_up n ps) n x ≡ filled_up (n + 1) (ps ++ (x ∷ []))
unfolding filled_up
filled_set n ps x l h =
    let rest = replicate (places_held - (n + 1)) blank in
    let e : places_held - n ≡ suc (places_held - (n + 1)) = omega (arith, h) in
    ap (λ k. set (ps ++ replicate k blank) n x) e ∙ set_at ps blank rest x n l ∙ sym (append_snoc ps x rest)

-- the arrays have the first i places of a board, of which `count` are in use
pub record Unpacked (b : Board) (count i : ℕ) (K T A : List ℕ) : Type 0 where
  pub full : length b.places ≡ places_held
  pub used : count ≡ min b.count places_held
  pub along : i ≤ count
  pub long_keys : length K ≡ places_held
  pub long_tickets : length T ≡ places_held
  pub long_admitted : length A ≡ places_held
  pub exact : places_in i K T A ≡ map packed (take i b.places)

module _ {b : Board} {count i : ℕ} {K T A : List ℕ} (u : Unpacked b count i K T A) where
  -- one place more
  pub unpacked_more : (k : ℕ) → k ≡ key_of (place_at b i).last.0 (place_at b i).grade → i < count
      → Unpacked b count (i + 1) (set K i k) (set T i (place_at b i).ticket) (set A i (place_at b i).admitted.0)
  unfolding packed
  unpacked_more k e h =
      let inside : i < places_held = omega (arith, u.used, h) in
      let t = (place_at b i).ticket in
      let a = (place_at b i).admitted.0 in
      record {
        full = u.full;
        used = u.used;
        along = omega (arith, h);
        long_keys = length-set K i k ∙ u.long_keys;
        long_tickets = length-set T i t ∙ u.long_tickets;
        long_admitted = length-set A i a ∙ u.long_admitted;
        exact =
            places_set i K T A k t a (omega (arith, inside, u.long_keys)) (omega (arith, inside, u.long_tickets)) (omega (arith, inside, u.long_admitted))
            ∙ rw (u.exact, e, add-one, take-suc b.places i blank (omega (arith, inside, u.full))) (sym (map-append packed (take i b.places) (place_at b i ∷ [])));
      }

  -- all of them
  pub unpacked_all : count ≤ i → board_in (record { depth = b.depth; slot = b.slot; highest = b.highest; count = b.count }) K T A ≡ packable b
  unfolding board_in packable in_use
  unpacked_all h =
      let e : i ≡ min b.count places_held = omega (arith, u.used, u.along, h) in
      λ j.
      record {
        depth = b.depth;
        slot = b.slot;
        highest = b.highest;
        count = b.count;
        places = ap (filled_up (min b.count places_held)) (rw e at u.exact) j;
      }

-- the first i of the places are those that the arrays have
pub record Taken (h : Head) (K T A : List ℕ) (count i : ℕ) (places : List Place) : Type 0 where
  pub used : count ≡ min h.count places_held
  pub along : i ≤ count
  pub exact : places ≡ filled_up i (places_in i K T A)

pub taken_none : (h : Head) (K T A : List ℕ) (count : ℕ) (none : Place) → count ≡ min h.count places_held → none ≡ blank
    → Taken h K T A count 0 (replicate places_held none)
unfolding filled_up places_in
taken_none h K T A count none e z =
    record {
      used = e;
      along = omega arith;
      exact = ap (replicate places_held) z ∙ (let all : places_held ≡ places_held - 0 = omega arith in ap (λ k. replicate k blank) all);
    }

module _ {h : Head} {K T A : List ℕ} {count i : ℕ} {places : List Place} (p : Taken h K T A count i places) where
  pub taken_more : (x : Place) → x ≡ place_in K T A i → i < count → Taken h K T A count (i + 1) (set places i x)
  taken_more x e l =
      record {
        used = p.used;
        along = omega (arith, l);
        exact =
            rw (p.exact, e) (filled_set i (places_in i K T A) (place_in K T A i) (places_length K T A i) (omega (arith, p.used, l)))
            ∙ ap (filled_up (i + 1)) (sym (places_more K T A i));
      }

  pub taken_all : count ≤ i → record { depth = h.depth; slot = h.slot; highest = h.highest; count = h.count; places = places } ≡ board_in h K T A
  unfolding board_in in_use
  taken_all l =
      let e : i ≡ min h.count places_held = omega (arith, p.used, p.along, l) in
      λ j.
      record { depth = h.depth; slot = h.slot; highest = h.highest; count = h.count; places = rw e at p.exact j }

-- A board in arrays: the slot that a job was admitted in is in one array, and a job put in is one place written in each.
use mathlib.Core.Path.{◌≡◌, sym, ap, ◌∙◌}
use mathlib.Core.Logic.{⊎_elim}
use mathlib.Core.List.{List, [], ◌∷◌, ◌++◌}
use Prim.Native.Nat.{ℕ, ◌+◌, ◌-◌, ◌≤◌, ◌<◌}
use native.Mathlib.Omega.{arith}
use lib.ListN.{length, get_or, set, replicate, length-replicate, get_or-replicate, get_or-eq_default}
use lib.Seq.{get_or-append_right}
use Rattle.lists.proofs.Tests.{cmp}
use Rattle.board.specs.declared.Place.{Place}
use Rattle.board.specs.Limits.{places_held}
use Rattle.board.specs.Held.{slot_number, blank}
use Rattle.packing.specs.declared.Head.{Head}
use Rattle.packing.specs.Inner.Packed.{key_of, place_of, places_in, in_use, filled_up, board_in, packed}
use Rattle.packing.proofs.Places.{all_in_use, places_length, places_set, board_at}
use Rattle.packing.proofs.Moving.{filled_set}
use Rattle.admitting.specs.Inner.Placed.{with_place, admitted_at}

-- among blank places, and past them
get_blank : (n i : ℕ) → get_or (replicate n blank) i blank ≡ blank
get_blank n i =
    ⊎_elim (λ (e : n ≤ i). get_or-eq_default (replicate n blank) blank (omega (arith, e, length-replicate n blank))) (λ (l : i < n). get_or-replicate n i blank blank l) (cmp n i)

module _ (h : Head) (K T A : List ℕ) where
  pub admitted_in : (i : ℕ) → i < h.count → i < places_held → slot_number (get_or A i 0) ≡ admitted_at (board_in h K T A) i
  unfolding in_use place_of
  admitted_in i l m = sym (ap (λ (x : Place). x.admitted) (board_at h K T A i (omega (arith, l, m))))

  -- past the places in use
  pub admitted_out : (i : ℕ) → in_use h.count ≤ i → slot_number 0 ≡ admitted_at (board_in h K T A) i
  unfolding board_in filled_up
  admitted_out i l =
      let ps = places_in (in_use h.count) K T A in
      let past = get_or-append_right ps (replicate (places_held - in_use h.count) blank) i blank (omega (arith, l, places_length K T A (in_use h.count))) in
      sym (ap (λ (x : Place). x.admitted) (past ∙ get_blank (places_held - in_use h.count) (i - length ps)))

  module _ (job : Place) (free : h.count < places_held) (lK : length K ≡ places_held) (lT : length T ≡ places_held) (lA : length A ≡ places_held) where
    abbrev n : ℕ
    n = h.count

    -- the places of the board with the job, as the arrays can hold it
    module _ (k : ℕ) (e : k ≡ key_of job.last.0 job.grade) where
      written : places_in (n + 1) (set K n k) (set T n job.ticket) (set A n job.admitted.0) ≡ places_in n K T A ++ (packed job ∷ [])
      unfolding packed
      written =
          places_set n K T A k job.ticket job.admitted.0 (omega (arith, free, lK)) (omega (arith, free, lT)) (omega (arith, free, lA))
          ∙ ap (λ m. places_in n K T A ++ (place_of m job.ticket job.admitted.0 ∷ [])) e

      places_put : filled_up (in_use (n + 1)) (places_in (in_use (n + 1)) (set K n k) (set T n job.ticket) (set A n job.admitted.0))
          ≡ set (filled_up (in_use n) (places_in (in_use n) K T A)) n (packed job)
      places_put =
          rw (all_in_use (n + 1) (omega (arith, free)), all_in_use n (omega (arith, free)), written)
          (sym (filled_set n (places_in n K T A) (packed job) (places_length K T A n) free))

      pub put_in : board_in (record { depth = h.depth; slot = h.slot; highest = job.ticket; count = n + 1 }) (set K n k) (set T n job.ticket) (set A n job.admitted.0)
          ≡ with_place (board_in h K T A) (packed job)
      unfolding board_in packed place_of
      put_in = λ j. record { depth = h.depth; slot = h.slot; highest = job.ticket; count = n + 1; places = places_put j }

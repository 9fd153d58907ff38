-- The places of a new board while the jobs of another that pass a test are copied to them, from the first place on: the invariant of such a loop, and the
-- thinned board in the end.
use mathlib.Core.Path.{◌≡◌, ap, ◌∙◌}
use mathlib.Core.Bool.{Bool, true, false}
use mathlib.Core.List.{List, ◌++◌, map, map-id}
use Prim.Native.Nat.{ℕ, ◌+◌, ◌-◌, ◌≤◌, ◌<◌, min}
use native.Mathlib.Omega.{arith}
use lib.ListN.{length, take, set, drop, replicate, length-append, length-replicate, length-take}
use Rattle.lists.proofs.Counting.{count_select, count_length}
use Rattle.lists.proofs.Parts.{drop_replicate}
use Rattle.lists.proofs.Filling.{Filled, filled_none, filled_same, filled_more}
use Rattle.rule.specs.Job.{Job}
use Rattle.board.specs.declared.Place.{Place}
use Rattle.board.specs.declared.Board.{Board}
use Rattle.board.specs.Limits.{places_held}
use Rattle.board.specs.Held.{slot_number, job_in, blank, used, passing, thinned}
use Rattle.board.proofs.Walk.{place_at, job_passes, places_passed, places_all, Walked, walked_none, there, walked_same, walked_more, walked_all}

-- no more jobs pass than there are
pub passing_few : (b : Board) (test : Job → Bool) → length (passing b test) ≤ min b.count (length b.places)
unfolding passing used
passing_few b test =
    omega (
      arith,
      length-take b.count b.places,
      count_select (job_passes test) (take b.count b.places),
      count_length (job_passes test) (take b.count b.places),
    )

-- the thinned board has all its places
pub thinned_full : (b : Board) (k : ℕ) (test : Job → Bool) → length (passing b test) ≤ places_held → length (thinned b k test).places ≡ places_held
unfolding thinned
thinned_full b k test h =
    let ps = passing b test in
    omega (arith, length-append ps (replicate (places_held - length ps) blank), length-replicate (places_held - length ps) blank)

-- i of the `count` places in use have been looked at, and n jobs copied; the other new places are blank
pub record Thinning (b : Board) (test : Job → Bool) (count i n : ℕ) (places : List Place) : Type 0 where
  pub walked : Walked b test count i n
  pub copied : Filled (job_passes test) b.places (λ (x : Place). x) i (replicate places_held blank) places

pub thinning_none : {b : Board} {test : Job → Bool} {count : ℕ} → length b.places ≡ places_held → count ≡ min b.count places_held
    → Thinning b test count 0 0 (replicate places_held blank)
thinning_none full in_use = record { walked = walked_none full in_use; copied = filled_none _ _ _ _ }

module _ {b : Board} {test : Job → Bool} {count i n : ℕ} {places : List Place} (t : Thinning b test count i n places) where
  -- at a place in use
  module _ (h : i < count) where
    pub thinning_same : test (job_in (place_at b i)) ≡ false → Thinning b test count (i + 1) n places
    thinning_same e = record { walked = walked_same t.walked h e; copied = filled_same (job_passes test) _ i blank (there t.walked h) e t.copied }

    pub thinning_more : test (job_in (place_at b i)) ≡ true → Thinning b test count (i + 1) (n + 1) (set places n (place_at b i))
    thinning_more e =
        let w = t.walked in
        let room : n < length (replicate places_held blank) = omega (arith, w.few, w.in_use, length-replicate places_held blank) in
        record { walked = walked_more w h e; copied = filled_more (job_passes test) _ i blank (there w h) e w.exact room t.copied }

  -- past them
  module _ (h : count ≤ i) where
    abbrev kept : List Place
    kept = passing b test

    all : places_passed b test i ≡ kept
    all = places_all b test i (walked_all t.walked h)

    filled : places ≡ kept ++ replicate (places_held - length kept) blank
    filled =
        t.copied.filled
        ∙ ap (λ xs. map (λ (x : Place). x) xs ++ drop (length xs) (replicate places_held blank)) all
        ∙ rw (map-id kept, drop_replicate (length kept) places_held blank)

    pub thinning_all : (k : ℕ) → record { depth = b.depth; slot = slot_number k; highest = b.highest; count = n; places = places } ≡ thinned b k test
    unfolding thinned
    thinning_all k =
        λ j.
        record { depth = b.depth; slot = slot_number k; highest = b.highest; count = (t.walked.exact ∙ ap length all) j; places = filled j }

-- A walk along the places of a board in use, by a test of the jobs in them.
use mathlib.Core.Path.{◌≡◌, sym, ap, ◌∙◌}
use mathlib.Core.Bool.{Bool, true, false}
use mathlib.Core.List.Memᴰ
use mathlib.Core.List.{List, [], ◌∷◌, ◌++◌, map, map-append, Memᴰ}
use Prim.Native.Nat.{ℕ, ◌+◌, ◌≤◌, ◌<◌, min}
use native.Mathlib.Omega.{arith}
use lib.ListN.{length, get_or, length-append, length-map}
use Rattle.lists.specs.Select.{select}
use Rattle.lists.proofs.Members.{take_mem}
use Rattle.lists.proofs.Parts.{select_map}
use Rattle.lists.proofs.Filling.{passed, passed_none, passed_same, passed_more, passed_all}
use Rattle.rule.specs.Job.{Job}
use Rattle.board.specs.declared.Place.{Place}
use Rattle.board.specs.declared.Board.{Board}
use Rattle.board.specs.Limits.{places_held}
use Rattle.board.specs.Held.{job_in, blank, used, held, passing}

-- the place i
abbrev pub place_at : Board → ℕ → Place
place_at b i = get_or b.places i blank

-- the job in a place in use is held
pub place_held : (b : Board) (i : ℕ) → i < b.count → i < length b.places → Memᴰ (job_in (place_at b i)) (held b)
unfolding held used
place_held b i h there = Memᴰ.map job_in (take_mem b.places b.count i blank h there)

-- the job in a place passes
abbrev pub job_passes : (Job → Bool) → Place → Bool
job_passes test x = test (job_in x)

-- those of the first i places whose jobs pass, and these jobs
abbrev pub places_passed : Board → (Job → Bool) → ℕ → List Place
places_passed b test = passed (job_passes test) b.places

unfoldable pub jobs_passed : Board → (Job → Bool) → ℕ → List Job
jobs_passed b test i = map job_in (places_passed b test i)

module _ (b : Board) (test : Job → Bool) where
  pub jobs_none : jobs_passed b test 0 ≡ []
  unfolding jobs_passed
  jobs_none = ap (map job_in) (passed_none (job_passes test) b.places)

  -- one place more, whose job fails or passes
  module _ (i : ℕ) (there : i < length b.places) where
    pub jobs_same : test (job_in (place_at b i)) ≡ false → jobs_passed b test (i + 1) ≡ jobs_passed b test i
    unfolding jobs_passed
    jobs_same e = ap (map job_in) (passed_same (job_passes test) b.places i blank there e)

    pub jobs_more : test (job_in (place_at b i)) ≡ true → jobs_passed b test (i + 1) ≡ jobs_passed b test i ++ (job_in (place_at b i) ∷ [])
    unfolding jobs_passed
    jobs_more e = ap (map job_in) (passed_more (job_passes test) b.places i blank there e) ∙ map-append job_in (places_passed b test i) (place_at b i ∷ [])

  -- all places in use; a count past the places is no more than all of them
  module _ (i : ℕ) (e : i ≡ min b.count (length b.places)) where
    pub places_all : places_passed b test i ≡ passing b test
    unfolding passing used
    places_all = passed_all (job_passes test) b.places i b.count e

    pub jobs_all : jobs_passed b test i ≡ select test (held b)
    unfolding jobs_passed held passing
    jobs_all = ap (map job_in) places_all ∙ select_map job_in test (used b)

-- i of the places in use, of which there are `count`, have been looked at, and n of their jobs pass
pub record Walked (b : Board) (test : Job → Bool) (count i n : ℕ) : Type 0 where
  pub full : length b.places ≡ places_held
  pub in_use : count ≡ min b.count places_held
  pub along : i ≤ count
  pub exact : n ≡ length (places_passed b test i)
  pub few : n ≤ i

pub walked_none : {b : Board} {test : Job → Bool} {count : ℕ} → length b.places ≡ places_held → count ≡ min b.count places_held → Walked b test count 0 0
walked_none {b} {test} full in_use =
    record { full = full; in_use = in_use; along = omega arith; exact = sym (ap length (passed_none (job_passes test) b.places)); few = omega arith }

module _ {b : Board} {test : Job → Bool} {count i n : ℕ} (w : Walked b test count i n) where
  -- at a place in use
  module _ (h : i < count) where
    pub there : i < length b.places
    there = omega (arith, w.full, w.in_use)

    pub walked_same : test (job_in (place_at b i)) ≡ false → Walked b test count (i + 1) n
    walked_same e =
        record {
          full = w.full;
          in_use = w.in_use;
          along = omega arith;
          exact = w.exact ∙ ap length (sym (passed_same (job_passes test) b.places i blank there e));
          few = omega (arith, w.few);
        }

    pub walked_more : test (job_in (place_at b i)) ≡ true → Walked b test count (i + 1) (n + 1)
    walked_more e =
        record {
          full = w.full;
          in_use = w.in_use;
          along = omega arith;
          exact =
              omega (arith, w.exact, ap length (passed_more (job_passes test) b.places i blank there e), length-append (places_passed b test i) (place_at b i ∷ []));
          few = omega (arith, w.few);
        }

  -- past them
  module _ (h : count ≤ i) where
    pub walked_all : i ≡ min b.count (length b.places)
    walked_all = omega (arith, w.full, w.in_use, w.along)

    pub how_many_passed : n ≡ length (select test (held b))
    unfolding jobs_passed
    how_many_passed = w.exact ∙ sym (length-map (places_passed b test i) job_in) ∙ ap length (jobs_all b test i walked_all)

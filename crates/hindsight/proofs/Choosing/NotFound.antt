-- A search that fails: the run of visited slots around the job's window is full with jobs whose windows lie in it, so the job does not fit beside them.
use mathlib.Core.Path.{◌≡◌, sym, ap, ◌∙◌}
use mathlib.Core.Bool.{Bool, true, false, ◌&&◌}
use mathlib.Core.Logic.{◌⊎◌, inl, inr}
use mathlib.Core.List.{List}
use Prim.Native.Nat.{ℕ, suc, ◌-◌, ◌≤◌, ◌<◌}
use native.Mathlib.Omega.{arith}
use lib.Dec.{eqb}
use lib.ListN.{length, set, get_or-eq_default}
use borrow.Author.Tests.{eq-eqb}
use Rattle.lists.specs.Select.{one_if}
use Rattle.lists.proofs.Counting.{one_if_most, one_if_no}
use Rattle.lists.proofs.Tests.{test, cmp, never, and_left, and_right, and_intro}
use Rattle.matching.specs.declared.Window.{Window}
use Rattle.matching.specs.Below.{count_below}
use Rattle.matching.specs.Windows.{slot_count, first_of, last_of, inside}
use Rattle.matching.specs.Choice.{is_in, count_within, all_fit}
use Rattle.matching.proofs.Below.Counting.{count_some, count_mono}
use Rattle.matching.proofs.Below.Pigeonhole.{without, without_other, count_without, count_once, pigeonhole}
use Rattle.matching.proofs.Below.Interval.{between, between_from, between_to, count_between}
use Rattle.matching.proofs.Windows.{inside_yes}
use Rattle.matching.proofs.Choice.Sets.{set_in, set_out_of}
use Rattle.matching.proofs.Choice.Fits.{hall}
use Rattle.hindsight.specs.declared.search.Trail.{Trail}
use Rattle.hindsight.specs.Inner.Search.{visited_at, holder, slots_held, Fitting, Searched, Stuck}
use Rattle.hindsight.specs.Inner.Accepted.{Accepted}
use Rattle.hindsight.proofs.Searching.Listed.{window_of}
use Rattle.hindsight.proofs.Choosing.Runs.{Start, run_start, Finish, run_finish}

-- one job more in the slots from a to b
crowd_added : (ws : List Window) (c : List Bool) (i a b : ℕ) → i < length ws → i < length c → is_in c i ≡ false → inside ws a b i ≡ true
    → suc (count_within ws c a b) ≤ count_within ws (set c i true) a b
unfolding count_within
crowd_added ws c i a b h l e n =
    let p : ℕ → Bool = λ r. is_in (set c i true) r && inside ws a b r in
    omega (
      arith,
      count_without p (length ws) i h (and_intro (is_in (set c i true) i) (inside ws a b i) (set_in c i true l) n),
      count_mono (λ r. is_in c r && inside ws a b r) (without p i) (length ws)
          (λ r k y.
          let z = and_left (is_in c r) (inside ws a b r) y in
          let other : r ≡ i → ⊥ = λ x. never (sym (ap (is_in c) x) ∙ z) e in
          without_other p i r
          (and_intro (is_in (set c i true) r) (inside ws a b r) (set_out_of c i true r other ∙ z) (and_right (is_in c r) (inside ws a b r) y))
          other),
    )

module _ (ws : List Window) (ok : Accepted ws) (t : Trail) (f : Fitting ws t)
    (stuck : (k : ℕ) → k < slot_count → visited_at t k ≡ true → Stuck ws t k)
    (c : List Bool) (once : (r : ℕ) → slots_held t (suc r) ≡ one_if (is_in c r)) where
  -- no slot past the last is visited
  past : (k : ℕ) → slot_count ≤ k → visited_at t k ≡ false
  unfolding visited_at
  past k h = get_or-eq_default t.visited false (omega (arith, f.visited_all))

  small : (k : ℕ) → visited_at t k ≡ true → k < slot_count
  small k e = go (cmp slot_count k)
    where
      go : (slot_count ≤ k) ⊎ (k < slot_count) → k < slot_count
      go (inl h) = never e (past k h)
      go (inr h) = h

  module _ (k : ℕ) (s : Start (visited_at t) k) (e : Finish (visited_at t) k) where
    -- a job with all its slots visited, one of them in the run, has its window in the run
    in_run : (r j : ℕ) → Searched ws r t → s.from ≤ j → j ≤ e.to → first_of ws r ≤ suc j → suc j ≤ last_of ws r → 1 ≤ first_of ws r
        → inside ws (suc s.from) (suc e.to) r ≡ true
    unfolding Searched
    in_run r j y h l m n o = inside_yes ws (suc s.from) (suc e.to) r (left (cmp (suc s.from) (first_of ws r))) (right (cmp (last_of ws r) (suc e.to)))
      where
        left : (suc s.from ≤ first_of ws r) ⊎ (first_of ws r < suc s.from) → suc s.from ≤ first_of ws r
        left (inl z) = z
        left (inr z) = never (y (s.from - 1) (omega arith) (omega arith)) (s.stops (s.from - 1) (omega arith))

        right : (last_of ws r ≤ suc e.to) ⊎ (suc e.to < last_of ws r) → last_of ws r ≤ suc e.to
        right (inl z) = z
        right (inr z) = never (y (suc e.to) (omega arith) z) e.stops

    seen_there : (j : ℕ) → s.from ≤ j → j ≤ e.to → visited_at t j ≡ true
    seen_there j h l = go (cmp j k)
      where
        go : (j ≤ k) ⊎ (k < j) → visited_at t j ≡ true
        go (inl z) = s.pass j h z
        go (inr z) = e.pass j (omega arith) l

    to_small : e.to < slot_count
    to_small = small e.to (seen_there e.to (omega (arith, s.before, e.after)) (omega arith))

    at : (j : ℕ) → between s.from e.to j ≡ true → Stuck ws t j
    at j y =
        let v = seen_there j (between_from s.from e.to j y) (between_to s.from e.to j y) in
        stuck j (small j v) v

    in_there : (r : ℕ) → Bool
    in_there r = is_in c r && inside ws (suc s.from) (suc e.to) r

    -- the holder of a slot of the run
    job_there : (j : ℕ) → (y : between s.from e.to j ≡ true) → (holder t j - 1 < length ws) × (in_there (holder t j - 1) ≡ true)
    unfolding slots_held in_there
    job_there j y =
        let v = at j y in
        let o = between_to s.from e.to j y in
        let l : j < slot_count = omega (arith, to_small) in
        let g = f.held j v.job l v.holds in
        let same : v.job ≡ holder t j - 1 = omega (arith, v.holds) in
        let w = window_of ws ok v.job g.job in
        let n = in_run v.job j v.searched (between_from s.from e.to j y) o g.from_first g.to_last w.from_one in
        let m : 1 ≤ count_below (λ x. eqb (holder t x) (suc v.job)) slot_count = count_some (λ x. eqb (holder t x) (suc v.job)) slot_count j l (eq-eqb (holder t j) (suc v.job) v.holds) in
        rw (sym same) (omega (arith, g.job), and_intro (is_in c v.job) (inside ws (suc s.from) (suc e.to) v.job) (chosen v.job m (test (is_in c v.job))) n)
      where
        chosen : (r : ℕ) → 1 ≤ count_below (λ x. eqb (holder t x) (suc r)) slot_count → (is_in c r ≡ true) ⊎ (is_in c r ≡ false) → is_in c r ≡ true
        chosen r m (inl z) = z
        chosen r m (inr z) = absurd (omega (arith, once r, one_if_no (is_in c r) z))

    full : suc e.to - s.from ≤ count_within ws c (suc s.from) (suc e.to)
    unfolding count_within slots_held in_there
    full =
        omega (
          arith,
          to_small,
          count_between s.from e.to slot_count,
          pigeonhole (between s.from e.to) in_there (λ j. holder t j - 1) slot_count (length ws) (λ j h y. job_there j y)
              (λ i j h l y z x. one i j h l (at i y) (at j z) x),
        )
      where
        one : (i j : ℕ) → i < slot_count → j < slot_count → Stuck ws t i → Stuck ws t j → holder t i - 1 ≡ holder t j - 1 → i ≡ j
        one i j h l v w x =
            let r = v.job in
            count_once (λ y. eqb (holder t y) (suc r)) slot_count i j (omega (arith, once r, one_if_most (is_in c r))) h l
            (eq-eqb (holder t i) (suc r) v.holds)
            (eq-eqb (holder t j) (suc r) (omega (arith, v.holds, w.holds)))

    -- so the job i does not fit
    no_room : (i : ℕ) → i < length ws → i < length c → is_in c i ≡ false → inside ws (suc s.from) (suc e.to) i ≡ true → all_fit ws (set c i true) ≡ true → ⊥
    no_room i h l g n y =
        omega (
          arith,
          full,
          crowd_added ws c i (suc s.from) (suc e.to) h l g n,
          hall ws (set c i true) ok.windows y (suc s.from) (suc e.to),
        )

  pub not_fit : (i : ℕ) → i < length ws → i < length c → is_in c i ≡ false → Searched ws i t → all_fit ws (set c i true) ≡ false
  unfolding Searched
  not_fit i h l g y = go (test (all_fit ws (set c i true)))
    where
      go : (all_fit ws (set c i true) ≡ true) ⊎ (all_fit ws (set c i true) ≡ false) → all_fit ws (set c i true) ≡ false
      go (inr z) = z
      go (inl z) =
          let w = window_of ws ok i h in
          let k = first_of ws i - 1 in
          let v = y k (omega (arith, w.from_one)) (omega (arith, w.from_one, w.ordered)) in
          let s = run_start (visited_at t) k v in
          let e = run_finish (visited_at t) slot_count past slot_count k (omega arith) v in
          absurd
          (no_room k s e i (omega (arith)) l g
          (in_run k s e i k y s.before e.after (omega (arith, w.from_one)) (omega (arith, w.from_one, w.ordered)) w.from_one)
          z)

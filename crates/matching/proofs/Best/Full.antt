-- Full slots: the slots from a to b, where as many jobs of a set have their windows in them as there are slots. An assignment of the set uses each of them.
use mathlib.Core.Path.{◌≡◌}
use mathlib.Core.Bool.{Bool, true, ◌&&◌}
use mathlib.Core.Logic.{◌⊎◌, inl, inr}
use mathlib.Core.List.{List}
use Prim.Native.Nat.{ℕ, suc, ◌-◌, ◌≤◌, ◌<◌}
use native.Mathlib.Omega.{arith}
use lib.Dec.{leb, eqb}
use lib.ListN.{length}
use borrow.Author.Tests.{leb-true, eq-eqb, eqb-true}
use Rattle.lists.specs.Select.{every}
use Rattle.lists.proofs.Tests.{cmp, and_left, and_right, and_intro}
use Rattle.matching.specs.declared.Window.{Window}
use Rattle.matching.specs.Below.{count_below}
use Rattle.matching.specs.Windows.{slot_count, first_of, last_of, inside, is_window}
use Rattle.matching.specs.Choice.{is_in, count_within}
use Rattle.matching.proofs.Below.Counting.{find, found, count_some}
use Rattle.matching.proofs.Below.Pigeonhole.{without, without_other, count_without, pigeonhole}
use Rattle.matching.proofs.Below.Interval.{between, between_yes, count_between}
use Rattle.matching.proofs.Windows.{window_at, inside_from, inside_to}
use Rattle.matching.proofs.Choice.Assigned.{Assigned}
use Rattle.matching.proofs.Best.Some.{some_pass, pass_yes, passing}

unfoldable pub full : List Window → List Bool → (a b : ℕ) → Bool
full ws c a b = leb (suc b - a) (count_within ws c a b)

module _ (ws : List Window) (c : List Bool) where
  -- the job has its window in full slots
  unfoldable pub shut_in : ℕ → Bool
  shut_in i = some_pass (λ a b. full ws c a b && inside ws a b i)

  -- the slot is one of full slots
  unfoldable pub shut : ℕ → Bool
  shut s = some_pass (λ a b. full ws c a b && between a b s)

  pub shut_slot : (i s : ℕ) → shut_in i ≡ true → first_of ws i ≤ s → s ≤ last_of ws i → shut s ≡ true
  unfolding shut_in shut
  shut_slot i s e h k =
      let r = passing (λ a b. full ws c a b && inside ws a b i) e in
      let f = and_left (full ws c r.from r.to) (inside ws r.from r.to i) r.passes in
      let n = and_right (full ws c r.from r.to) (inside ws r.from r.to i) r.passes in
      pass_yes (λ a b. full ws c a b && between a b s) r.from r.to r.from_small r.to_small
      (and_intro (full ws c r.from r.to) (between r.from r.to s) f
      (between_yes r.from r.to s (omega (arith, inside_from ws r.from r.to i n)) (omega (arith, inside_to ws r.from r.to i n))))

  -- each of the full slots from a to b is used, by a job with its window in them
  module _ (ok : every is_window ws ≡ true) (σ : ℕ → ℕ) (g : Assigned ws c σ) where
    pub record User (a b s : ℕ) : Type 0 where
      pub job : ℕ
      pub below : job < length ws
      pub chosen : is_in c job ≡ true
      pub within : inside ws a b job ≡ true
      pub uses : σ job ≡ s

    abbrev in_them : (a b i : ℕ) → Bool
    in_them a b i = is_in c i && inside ws a b i

    abbrev uses_it : (a b s i : ℕ) → Bool
    uses_it a b s i = in_them a b i && eqb (σ i) s

    used : (a b s : ℕ) → 1 ≤ count_below (uses_it a b s) (length ws) → User a b s
    used a b s y =
        let f = found (uses_it a b s) (length ws) y in
        let i = find (uses_it a b s) (length ws) in
        let t = and_left (in_them a b i) (eqb (σ i) s) f.1 in
        record {
          job = i;
          below = f.0;
          chosen = and_left (is_in c i) (inside ws a b i) t;
          within = and_right (is_in c i) (inside ws a b i) t;
          uses = eqb-true (σ i) s (and_right (in_them a b i) (eqb (σ i) s) f.1);
        }

    -- were the slot not used, the jobs would have one slot fewer
    not_used : (a b s : ℕ) → s ≤ slot_count → a ≤ s → s ≤ b → count_below (uses_it a b s) (length ws) < 1 → suc (count_within ws c a b) ≤ count_below (between a b) (suc slot_count)
    unfolding count_within
    not_used a b s o h k y =
        omega (
          arith,
          count_without (between a b) (suc slot_count) s (omega arith) (between_yes a b s h k),
          pigeonhole (in_them a b) (without (between a b) s) σ (length ws) (suc slot_count)
              (λ i l e.
              let t = and_left (is_in c i) (inside ws a b i) e in
              let n = and_right (is_in c i) (inside ws a b i) e in (
                omega (arith, g.to_last i l t, (window_at ws ok i l).to_end),
                without_other (between a b) s (σ i)
                    (between_yes a b (σ i) (omega (arith, g.from_first i l t, inside_from ws a b i n)) (omega (arith, g.to_last i l t, inside_to ws a b i n)))
                    (λ z. omega (arith, count_some (uses_it a b s) (length ws) i l (and_intro (in_them a b i) (eqb (σ i) s) e (eq-eqb (σ i) s z)))),
              ))
              (λ i j l m e f. g.apart i j l m (and_left (is_in c i) (inside ws a b i) e) (and_left (is_in c j) (inside ws a b j) f)),
        )

    pub user : (a b s : ℕ) → full ws c a b ≡ true → b ≤ slot_count → a ≤ s → s ≤ b → User a b s
    unfolding full
    user a b s e o h k = go (cmp 1 (count_below (uses_it a b s) (length ws)))
      where
        go : (1 ≤ count_below (uses_it a b s) (length ws)) ⊎ (count_below (uses_it a b s) (length ws) < 1) → User a b s
        go (inl y) = used a b s y
        go (inr y) =
            absurd (omega (arith, leb-true (suc b - a) (count_within ws c a b) e, not_used a b s (omega arith) h k y, count_between a b (suc slot_count)))

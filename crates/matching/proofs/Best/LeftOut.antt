-- A job that is left out has its window in slots that are full with the chosen ones.
use mathlib.Core.Path.{◌≡◌, sym, ap, ◌∙◌}
use mathlib.Core.Bool.{Bool, true, false, not, ◌&&◌}
use mathlib.Core.Logic.{◌⊎◌, inl, inr}
use mathlib.Core.List.{List}
use Prim.Native.Nat.{ℕ, suc, ◌-◌, ◌≤◌, ◌<◌}
use native.Mathlib.Omega.{arith}
use lib.Dec.{eqb}
use lib.ListN.{length, set}
use borrow.Author.Tests.{le-leb, not-true, eqb-false}
use Rattle.lists.specs.Select.{every}
use Rattle.lists.proofs.Tests.{test, cmp, never, and_left, and_right, and_intro}
use Rattle.matching.specs.declared.Window.{Window}
use Rattle.matching.specs.Windows.{most_jobs, inside, is_window}
use Rattle.matching.specs.Choice.{is_in, count_within, chosen_to}
use Rattle.matching.proofs.Below.Counting.{count_mono}
use Rattle.matching.proofs.Below.Pigeonhole.{without, count_without}
use Rattle.matching.proofs.Choice.Sets.{set_in, set_out_of}
use Rattle.matching.proofs.Choice.Fits.{Over, fits_not, hall, crowd_mono}
use Rattle.matching.proofs.Choice.Chosen.{chosen_length, chosen_late, chosen_early, chosen_turn, chosen_fits}
use Rattle.matching.proofs.Best.Some.{pass_yes}
use Rattle.matching.proofs.Best.Full.{full, shut_in}

-- a job added to a set: where it is in the slots from a to b, the others are one fewer; where it is not, nothing changes
module _ (ws : List Window) (c d : List Bool) (r a b : ℕ) (sub : (i : ℕ) → (i ≡ r → ⊥) → is_in (set c r true) i ≡ true → is_in d i ≡ true) where
  abbrev with_it : ℕ → Bool
  with_it i = is_in (set c r true) i && inside ws a b i

  pub added_inside : r < length ws → r < length c → inside ws a b r ≡ true → count_within ws (set c r true) a b ≤ suc (count_within ws d a b)
  unfolding count_within
  added_inside h k e =
      omega (
        arith,
        count_without with_it (length ws) r h (and_intro (is_in (set c r true) r) (inside ws a b r) (set_in c r true k) e),
        count_mono (without with_it r) (λ i. is_in d i && inside ws a b i) (length ws)
            (λ i l y.
            let w = and_left (with_it i) (not (eqb i r)) y in
            let n = not-true (eqb i r) (and_right (with_it i) (not (eqb i r)) y) in
            and_intro (is_in d i) (inside ws a b i) (sub i (eqb-false i r n) (and_left (is_in (set c r true) i) (inside ws a b i) w)) (and_right (is_in (set c r true) i) (inside ws a b i) w)),
      )

  pub added_outside : inside ws a b r ≡ false → count_within ws (set c r true) a b ≤ count_within ws d a b
  added_outside e =
      crowd_mono ws (set c r true) d a b a b
      (λ i l y z. (sub i (λ x. never z (ap (inside ws a b) x ∙ e)) y, z))

module _ (ws : List Window) (few : length ws ≤ most_jobs) (ok : every is_window ws ≡ true) (m r : ℕ) (h : r < m) (k : m ≤ length ws) where
  earlier : (i : ℕ) → (i ≡ r → ⊥) → is_in (set (chosen_to ws r) r true) i ≡ true → is_in (chosen_to ws r) i ≡ true
  earlier i n e = sym (set_out_of (chosen_to ws r) r true i n) ∙ e

  later : (i : ℕ) → is_in (chosen_to ws r) i ≡ true → is_in (chosen_to ws m) i ≡ true
  later i e = go (cmp r i)
    where
      go : (r ≤ i) ⊎ (i < r) → is_in (chosen_to ws m) i ≡ true
      go (inl l) = never e (chosen_late ws r i l)
      go (inr l) = chosen_early ws m r i l (omega arith) ∙ e

  pub left_out_shut : is_in (chosen_to ws m) r ≡ false → shut_in ws (chosen_to ws m) r ≡ true
  unfolding shut_in full
  left_out_shut e =
      let o = fits_not ws (set (chosen_to ws r) r true) (sym (chosen_turn ws r (omega arith)) ∙ sym (chosen_early ws m (suc r) r (omega arith) (omega arith)) ∙ e) in
      go o (test (inside ws o.from o.to r))
    where
      go : (o : Over ws (set (chosen_to ws r) r true)) → (inside ws o.from o.to r ≡ true) ⊎ (inside ws o.from o.to r ≡ false) → shut_in ws (chosen_to ws m) r ≡ true
      go o (inl y) =
          pass_yes (λ a b. full ws (chosen_to ws m) a b && inside ws a b r) o.from o.to o.from_small o.to_small
          (and_intro (full ws (chosen_to ws m) o.from o.to) (inside ws o.from o.to r)
          (le-leb (suc o.to - o.from) (count_within ws (chosen_to ws m) o.from o.to)
          (omega (
            arith,
            o.over,
            added_inside ws (chosen_to ws r) (chosen_to ws m) r o.from o.to (λ i n z. later i (earlier i n z)) (omega arith) (omega (arith, chosen_length ws r)) y,
          )))
          y)
      go o (inr y) =
          absurd
          (omega (
            arith,
            o.over,
            added_outside ws (chosen_to ws r) (chosen_to ws r) r o.from o.to earlier y,
            hall ws (chosen_to ws r) ok (chosen_fits ws ok r) o.from o.to,
          ))

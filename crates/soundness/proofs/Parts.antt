-- Soundness is what the code tests: the limits, the walk along the jobs, and the blank places.
use mathlib.Core.Path.{◌≡◌, refl}
use mathlib.Core.Bool.{Bool, true, ◌&&◌}
use mathlib.Core.Logic.{◌⊎◌, inl, inr}
use Prim.Native.Nat.{ℕ, ◌≤◌, ◌<◌}
use native.Mathlib.Omega.{arith}
use lib.ListN.{length}
use borrow.Author.Tests.{leb-true, le-leb}
use Rattle.lists.proofs.Tests.{cmp, and_left, and_right, and_intro, same_test}
use Rattle.lists.proofs.Joined.{apart, together}
use Rattle.lists.proofs.Parts.{never_fall_from}
use Rattle.lists.proofs.Spread.{sharing}
use Rattle.rule.specs.Job.{Job}
use Rattle.board.specs.declared.Board.{Board}
use Rattle.board.specs.Limits.{most_in_slot, places_held, deepest}
use Rattle.board.specs.Held.{slot_of, used, held}
use Rattle.board.specs.Sound.{blank_past_count, sound}
use Rattle.board.proofs.Soundness.Facts.{admitted_in}
use Rattle.board.proofs.Soundness.Apart.{blanks, facts}
use Rattle.board.proofs.Soundness.Together.{blank_places, all_sound}
use Rattle.soundness.specs.Inner.Walk.{limit_tests, in_limits, nothing_seen, all_well}
use Rattle.soundness.proofs.Sharing.{shares_most, none_before}
use Rattle.soundness.proofs.Walk.{Well, well_facts, facts_well}

-- what the code tests, in its order
abbrev pub tested : Board → Bool
tested b = in_limits b.depth (slot_of b) b.count && (all_well b nothing_seen (used b) && blank_past_count b)

pub within : (d k n : ℕ) → in_limits d k n ≡ true → (d ≤ deepest) × (n ≤ places_held)
unfolding in_limits limit_tests
within d k n h = let passed = apart (λ t. t) (limit_tests d k n) h in omega (arith, leb-true)

module _ (b : Board) where
  -- no nine jobs share an admitted slot
  few_share : Well b nothing_seen (used b) → (r : Job) → admitted_in r.admitted (held b) ≤ most_in_slot
  unfolding nothing_seen held
  few_share w r = go (cmp nothing_seen.admitted.0 r.admitted)
    where
      go : (nothing_seen.admitted.0 ≤ r.admitted) ⊎ (r.admitted < nothing_seen.admitted.0) → admitted_in r.admitted (held b) ≤ most_in_slot
      go (inl h) = omega (arith, w.few r.admitted h)
      go (inr h) = omega (arith, none_before r.admitted nothing_seen.admitted.0 (held b) w.slots_in_order h)

  tested_sound : length b.places ≡ places_held → tested b ≡ true → sound b ≡ true
  unfolding in_limits limit_tests nothing_seen held
  tested_sound full h =
      let passed = apart (λ t. t) (limit_tests b.depth (slot_of b) b.count) (and_left _ _ h) in
      let q = and_right (in_limits b.depth (slot_of b) b.count) _ h in
      let walked = all_well b nothing_seen (used b) in
      let w = well_facts b nothing_seen (used b) (omega arith) (and_left walked _ q) in
      all_sound b
      record {
        full = full;
        shallow = omega (arith, leb-true);
        from_first = omega (arith, leb-true);
        to_last = omega (arith, leb-true);
        counted = omega (arith, leb-true);
        blank_past = blanks b (and_right walked _ q);
        tickets_rise = w.tickets_rise;
        slots_in_order = never_fall_from 1 nothing_seen.admitted.0 _ (omega arith) w.slots_in_order;
        each = w.each;
        intake = λ r m. few_share w r;
      }

  sound_tested : sound b ≡ true → tested b ≡ true
  unfolding in_limits limit_tests nothing_seen held
  sound_tested h =
      let f = facts b h in
      let well : Well b nothing_seen (used b) =
      record {
        so_far = refl;
        last_known = omega arith;
        tickets_rise = f.tickets_rise;
        slots_in_order = never_fall_from nothing_seen.admitted.0 1 _ (omega arith) f.slots_in_order;
        each = f.each;
        few = λ k g. omega (arith, shares_most nothing_seen.admitted.0 nothing_seen.sharing k, sharing (λ (r : Job). r.admitted) (held b) most_in_slot f.intake k);
      } in
      and_intro _ _ (together (λ t. t) (limit_tests b.depth (slot_of b) b.count) (omega (arith, le-leb)))
      (and_intro _ _ (facts_well b nothing_seen (used b) well) (blank_places b f))

  pub sound_is : length b.places ≡ places_held → tested b ≡ sound b
  sound_is full = same_test (tested b) (sound b) (tested_sound full) sound_tested

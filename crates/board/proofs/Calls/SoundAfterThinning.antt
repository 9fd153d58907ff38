-- A board in the same slot or a later one, with only those of its jobs that pass a test, is sound if they are in date there: closing and withdrawing.
use mathlib.Core.Path.{◌≡◌, ap, ◌∙◌, subst}
use mathlib.Core.Bool.{Bool, true, ◌&&◌}
use mathlib.Core.List.{map, Memᴰ}
use Prim.Native.Nat.{ℕ, suc, ◌-◌, ◌≤◌}
use native.Mathlib.Omega.{arith}
use lib.Dec.{eqb}
use lib.ListN.{length, replicate}
use lib.Seq.{drop-append_seam}
use Rattle.lists.specs.Select.{select}
use Rattle.lists.specs.Rise.{rise, never_fall}
use Rattle.lists.proofs.Tests.{and_right}
use Rattle.lists.proofs.Members.{select_mem}
use Rattle.lists.proofs.Counting.{count_mono, count_in_selection}
use Rattle.rule.specs.Job.{Job}
use Rattle.board.specs.declared.Board.{Board}
use Rattle.board.specs.Limits.{most_in_slot, places_held, last_slot}
use Rattle.board.specs.Held.{slot_of, blank, held, passing, thinned}
use Rattle.lists.proofs.Parts.{rise_select, never_fall_select, replicate_mem}
use Rattle.board.proofs.Soundness.Facts.{JobFacts, SoundFacts, admitted_in}
use Rattle.board.proofs.Thinning.{passing_few, thinned_full}
use Rattle.board.proofs.Calls.HeldAfter.{held_thinned}

module _ (b : Board) (f : SoundFacts b) (k : ℕ) (test : Job → Bool) (later : slot_of b ≤ k) (last : k ≤ suc last_slot)
    (dated : (r : Job) → Memᴰ r (held b) → test r ≡ true → k ≤ r.last) where
  jobs : held (thinned b k test) ≡ select test (held b)
  jobs = held_thinned b k test

  -- a job of the new board was on the old one, and passes
  stayed : (r : Job) → Memᴰ r (held (thinned b k test)) → Memᴰ r (held b) × (test r ≡ true)
  stayed r m = select_mem test r (held b) (subst (Memᴰ r) jobs m)

  few : length (passing b test) ≤ places_held
  few = omega (arith, f.counted, passing_few b test)

  fits : (r : Job) → Memᴰ r (held (thinned b k test)) → JobFacts (thinned b k test) r
  unfolding thinned
  fits r m =
      let s = stayed r m in
      let old = f.each r s.0 in
      record {
        known = old.known;
        begun = omega (arith, old.begun);
        in_date = dated r s.0 s.1;
        short = old.short;
        graded = old.graded;
      }

  taken : (r : Job) → Memᴰ r (held (thinned b k test)) → admitted_in r.admitted (held (thinned b k test)) ≤ most_in_slot
  taken r m =
      let same : Job → Bool = λ (q : Job). eqb q.admitted r.admitted in
      omega (
        arith,
        ap (admitted_in r.admitted) jobs,
        count_in_selection same test (held b),
        count_mono (λ (q : Job). test q && same q) same (held b) (λ q i e. and_right (test q) (same q) e),
        f.intake r (stayed r m).0,
      )

  pub after_thinning : SoundFacts (thinned b k test)
  unfolding thinned
  after_thinning =
      let ps = passing b test in
      record {
        full = thinned_full b k test few;
        shallow = f.shallow;
        from_first = omega (arith, f.from_first);
        to_last = last;
        counted = few;
        blank_past = λ x m. replicate_mem (places_held - length ps) blank (subst (Memᴰ x) (drop-append_seam ps (replicate (places_held - length ps) blank)) m);
        tickets_rise = ap (λ A. rise 0 (map (λ (r : Job). r.ticket) A)) jobs ∙ rise_select (λ (r : Job). r.ticket) test 0 (held b) f.tickets_rise;
        slots_in_order = ap (λ A. never_fall 1 (map (λ (r : Job). r.admitted) A)) jobs ∙ never_fall_select (λ (r : Job). r.admitted) test 1 (held b) f.slots_in_order;
        each = fits;
        intake = taken;
      }

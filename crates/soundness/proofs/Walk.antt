-- What a walk that finds all well says of the jobs, and that it finds all well where that holds.
use mathlib.Core.Path.{◌≡◌, refl, sym, subst}
use mathlib.Core.Bool.{true}
use mathlib.Core.Logic.{⊎_elim}
use mathlib.Core.List.Memᴰ
use mathlib.Core.List.{List, [], ◌∷◌, map, Memᴰ}
use Prim.Native.Nat.{ℕ, ◌+◌, ◌^◌, ◌≤◌, ◌<◌}
use native.Mathlib.Omega.{arith}
use lib.Dec.{leb, ltb, eqb}
use borrow.Author.Tests.{leb-true, le-leb, lt-ltb, eq-eqb}
use Rattle.lists.specs.Select.{how_many}
use Rattle.lists.specs.Rise.{rise, never_fall}
use Rattle.lists.proofs.Tests.{and_left, and_right, and_intro}
use Rattle.lists.proofs.Counting.{one_if_yes}
use Rattle.lists.proofs.Joined.{apart, together}
use Rattle.lists.proofs.Rising.{rise_above, never_fall_above}
use Rattle.rule.specs.Job.{Job}
use Rattle.board.specs.declared.Place.{Place}
use Rattle.board.specs.declared.Board.{Board}
use Rattle.board.specs.Limits.{most_in_slot}
use Rattle.board.specs.Held.{slot_of, job_in}
use Rattle.board.proofs.Soundness.Facts.{JobFacts, admitted_in}
use Rattle.soundness.specs.declared.Seen.{Seen}
use Rattle.soundness.specs.Inner.Walk.{sharing_with, is_short, next_tests, well_with, seen_with, all_well}
use Rattle.soundness.proofs.Sharing.{jobs, slots, shares, shares_most, sharing_is, shared_next, few_before}

abbrev tickets : List Place → List ℕ
tickets l = map (λ (r : Job). r.ticket) (jobs l)

-- after what was seen the places stand as soundness asks
pub record Well (b : Board) (s : Seen) (l : List Place) : Type 0 where
  pub so_far : s.well ≡ true
  pub last_known : s.ticket ≤ b.highest
  pub tickets_rise : rise s.ticket (tickets l) ≡ true
  pub slots_in_order : never_fall s.admitted.0 (slots l) ≡ true
  pub each : (r : Job) → Memᴰ r (jobs l) → JobFacts b r
  pub few : (k : ℕ) → s.admitted.0 ≤ k → shares s.admitted.0 s.sharing k + admitted_in k (jobs l) ≤ most_in_slot

module _ (b : Board) where
  -- where all is well at the end, all was well before
  still_well : (s : Seen) (l : List Place) → all_well b s l ≡ true → s.well ≡ true
  unfolding all_well seen_with well_with next_tests
  still_well s [] h = and_left _ _ h
  still_well s (x ∷ l) h = (apart (λ t. t) (next_tests (slot_of b) (2 ^ b.depth) s x) (still_well (seen_with (slot_of b) (2 ^ b.depth) s x) l h)).0

  pub well_facts : (s : Seen) (l : List Place) → s.sharing ≤ most_in_slot → all_well b s l ≡ true → Well b s l
  unfolding all_well seen_with well_with next_tests is_short rise never_fall how_many job_in
  well_facts s [] m h =
      let passed = and_right s.well _ h in
      record {
        so_far = still_well s [] h;
        last_known = omega (arith, leb-true);
        tickets_rise = refl;
        slots_in_order = refl;
        each = λ r i. absurd (Memᴰ.not-nil i);
        few = λ k g. omega (arith, shares_most s.admitted.0 s.sharing k);
      }
  well_facts s (x ∷ l) m h =
      let n = seen_with (slot_of b) (2 ^ b.depth) s x in
      let passed = apart (λ t. t) (next_tests (slot_of b) (2 ^ b.depth) s x) (still_well n l h) in
      let f = well_facts n l (omega (arith, leb-true)) h in
      let rises : s.ticket < x.ticket = omega (arith, leb-true) in
      let forth : s.admitted.0 ≤ x.admitted.0 = omega (arith, leb-true) in
      let first : JobFacts b (job_in x) = omega (arith, leb-true) in
      record {
        so_far = passed.0;
        last_known = omega arith;
        tickets_rise = and_intro _ _ (lt-ltb _ _ rises) f.tickets_rise;
        slots_in_order = and_intro _ _ (le-leb _ _ forth) f.slots_in_order;
        each = λ r i. ⊎_elim (λ e. subst (JobFacts b) (sym e) first) (λ j. f.each r j) (Memᴰ.cases_cons i);
        few = λ k g. few_before s x l forth m f.slots_in_order f.few k;
      }

  pub facts_well : (s : Seen) (l : List Place) → Well b s l → all_well b s l ≡ true
  unfolding all_well seen_with well_with next_tests is_short rise never_fall how_many job_in
  facts_well s [] f = and_intro _ _ f.so_far (omega (arith, le-leb))
  facts_well s (x ∷ l) f =
      let rises : s.ticket < x.ticket = rise_above s.ticket {l = tickets (x ∷ l)} f.tickets_rise (Memᴰ.head refl) in
      let forth : s.admitted.0 ≤ x.admitted.0 = never_fall_above s.admitted.0 {l = slots (x ∷ l)} f.slots_in_order (Memᴰ.head refl) in
      let few : sharing_with s x ≤ most_in_slot =
      omega (arith, sharing_is s x, f.few x.admitted.0 forth, one_if_yes (eqb x.admitted.0 x.admitted.0) (eq-eqb x.admitted.0 x.admitted.0 refl)) in
      let first = f.each (job_in x) (Memᴰ.head refl) in
      facts_well (seen_with (slot_of b) (2 ^ b.depth) s x) l
      record {
        so_far = together (λ t. t) (next_tests (slot_of b) (2 ^ b.depth) s x) (f.so_far, omega (arith, le-leb));
        last_known = first.known;
        tickets_rise = and_right (ltb s.ticket x.ticket) _ f.tickets_rise;
        slots_in_order = and_right (leb s.admitted.0 x.admitted.0) _ f.slots_in_order;
        each = λ r i. f.each r (Memᴰ.tail i);
        few = λ k g. omega (arith, shared_next s x l forth k g, f.few k (omega arith));
      }

-- No plan bakes more of the first m jobs than are chosen of them. Its jobs that are shut in have full slots, each of which a chosen job uses that is shut
-- in too; its other jobs are all chosen.
use mathlib.Core.Path.{◌≡◌, refl, sym, ap, ◌∙◌}
use mathlib.Core.Bool.{Bool, true, false, not, ◌&&◌}
use mathlib.Core.Logic.{◌⊎◌, inl, inr}
use mathlib.Core.List.{List}
use Prim.Native.Nat.{ℕ, suc, ◌+◌, ◌≤◌, ◌<◌}
use native.Mathlib.Omega.{arith}
use lib.Dec.{eqb}
use lib.ListN.{length}
use borrow.Author.Tests.{eq-eqb, eqb-true, eqb-false, not-true}
use Rattle.lists.specs.Select.{one_if, every}
use Rattle.lists.proofs.Tests.{test, cmp, never, and_left, and_right, and_intro}
use Rattle.matching.specs.declared.Window.{Window}
use Rattle.matching.specs.Below.{count_below}
use Rattle.matching.specs.Windows.{most_jobs, slot_count, inside, is_window}
use Rattle.matching.specs.Assignments.{slot_given, IsAssignment, baked_of_first}
use Rattle.matching.specs.Choice.{is_in, chosen_to}
use Rattle.matching.specs.Layout.{layout}
use Rattle.matching.proofs.Below.Counting.{find, found, count_some, count_mono, count_split}
use Rattle.matching.proofs.Below.Pigeonhole.{pigeonhole}
use Rattle.matching.proofs.Below.Interval.{between, between_from, between_to}
use Rattle.matching.proofs.Windows.{window_at}
use Rattle.matching.proofs.Choice.Assigned.{Assigned}
use Rattle.matching.proofs.Choice.Chosen.{chosen_length, chosen_late, chosen_fits}
use Rattle.matching.proofs.Laying.Whole.{layout_assigned}
use Rattle.matching.proofs.Best.Some.{pass_yes, passing}
use Rattle.matching.proofs.Best.Full.{full, shut_in, shut, shut_slot, user}
use Rattle.matching.proofs.Best.LeftOut.{left_out_shut}

split_by : (x y : Bool) → one_if x ≡ one_if (x && y) + one_if (x && not y)
unfolding one_if
split_by true true = refl
split_by true false = refl
split_by false y = refl

count_by : (p q : ℕ → Bool) (n : ℕ) → count_below p n ≡ count_below (λ i. p i && q i) n + count_below (λ i. p i && not (q i)) n
count_by p q n = count_split (λ i. p i && q i) (λ i. p i && not (q i)) p n (λ i h. split_by (p i) (q i))

module _ (ws : List Window) (few : length ws ≤ most_jobs) (ok : every is_window ws ≡ true) (m : ℕ) (k : m ≤ length ws) where
  abbrev taken : ℕ → Bool
  taken = is_in (chosen_to ws m)

  abbrev closed_in : ℕ → Bool
  closed_in = shut_in ws (chosen_to ws m)

  abbrev slot : ℕ → ℕ
  slot = slot_given (layout ws (chosen_to ws m))

  good : Assigned ws (chosen_to ws m) slot
  good = layout_assigned ws few ok (chosen_to ws m) (chosen_length ws m) (chosen_fits ws ok m)

  -- the chosen job that uses a slot
  abbrev uses_it : (s i : ℕ) → Bool
  uses_it s i = (taken i && closed_in i) && eqb (slot i) s

  used : (s : ℕ) → shut ws (chosen_to ws m) s ≡ true → (find (uses_it s) m < m) × (uses_it s (find (uses_it s) m) ≡ true)
  unfolding shut shut_in
  used s e =
      let r = passing (λ a b. full ws (chosen_to ws m) a b && between a b s) e in
      let f = and_left (full ws (chosen_to ws m) r.from r.to) (between r.from r.to s) r.passes in
      let n = and_right (full ws (chosen_to ws m) r.from r.to) (between r.from r.to s) r.passes in
      let u = user ws (chosen_to ws m) ok slot good r.from r.to s f r.to_small (between_from r.from r.to s n) (between_to r.from r.to s n) in
      let c = pass_yes (λ a b. full ws (chosen_to ws m) a b && inside ws a b u.job) r.from r.to r.from_small r.to_small
      (and_intro (full ws (chosen_to ws m) r.from r.to) (inside ws r.from r.to u.job) f u.within) in
      found (uses_it s) m
      (count_some (uses_it s) m u.job (early u.job u.chosen (cmp m u.job))
      (and_intro (taken u.job && closed_in u.job) (eqb (slot u.job) s) (and_intro (taken u.job) (closed_in u.job) u.chosen c) (eq-eqb (slot u.job) s u.uses)))
    where
      early : (i : ℕ) → taken i ≡ true → (m ≤ i) ⊎ (i < m) → i < m
      early i e (inl l) = never e (chosen_late ws m i l)
      early i e (inr l) = l

  shut_slots : count_below (shut ws (chosen_to ws m)) (suc slot_count) ≤ count_below (λ i. taken i && closed_in i) m
  shut_slots =
      pigeonhole (shut ws (chosen_to ws m)) (λ i. taken i && closed_in i) (λ s. find (uses_it s) m) (suc slot_count) m
      (λ s h e. ((used s e).0, and_left (taken (find (uses_it s) m) && closed_in (find (uses_it s) m)) (eqb (slot (find (uses_it s) m)) s) (used s e).1))
      (λ s t h l e f z. sym (at s e) ∙ ap slot z ∙ at t f)
    where
      at : (s : ℕ) → shut ws (chosen_to ws m) s ≡ true → slot (find (uses_it s) m) ≡ s
      at s e =
          let i = find (uses_it s) m in
          eqb-true (slot i) s (and_right (taken i && closed_in i) (eqb (slot i) s) (used s e).1)

  -- another plan
  module _ (other : List ℕ) (plan : IsAssignment ws other) where
    abbrev baked : ℕ → Bool
    baked i = not (eqb (slot_given other i) 0)

    some : (i : ℕ) → baked i ≡ true → 1 ≤ slot_given other i
    some i e = go (cmp 1 (slot_given other i))
      where
        go : (1 ≤ slot_given other i) ⊎ (slot_given other i < 1) → 1 ≤ slot_given other i
        go (inl l) = l
        go (inr l) = absurd (eqb-false (slot_given other i) 0 (not-true (eqb (slot_given other i) 0) e) (omega arith))

    in_shut : count_below (λ i. baked i && closed_in i) m ≤ count_below (shut ws (chosen_to ws m)) (suc slot_count)
    in_shut =
        pigeonhole (λ i. baked i && closed_in i) (shut ws (chosen_to ws m)) (slot_given other) m (suc slot_count)
        (λ i h e.
        let y = some i (and_left (baked i) (closed_in i) e) in
        let w = plan.in_window i (omega arith) y in
        (omega (arith, w.1, (window_at ws ok i (omega arith)).to_end), shut_slot ws (chosen_to ws m) i (slot_given other i) (and_right (baked i) (closed_in i) e) w.0 w.1))
        (λ i j h l e f z. plan.apart i j (omega arith) (omega arith) (some i (and_left (baked i) (closed_in i) e)) z)

    not_shut : count_below (λ i. baked i && not (closed_in i)) m ≤ count_below (λ i. taken i && not (closed_in i)) m
    not_shut =
        count_mono (λ i. baked i && not (closed_in i)) (λ i. taken i && not (closed_in i)) m
        (λ i h e. let n = and_right (baked i) (not (closed_in i)) e in and_intro (taken i) (not (closed_in i)) (go i h n (test (taken i))) n)
      where
        go : (i : ℕ) → i < m → not (closed_in i) ≡ true → (taken i ≡ true) ⊎ (taken i ≡ false) → taken i ≡ true
        go i h n (inl e) = e
        go i h n (inr e) = never (left_out_shut ws few ok m i h k e) (not-true (closed_in i) n)

    pub unbeaten : baked_of_first other m ≤ count_below taken m
    unfolding baked_of_first
    unbeaten = omega (arith, count_by baked closed_in m, count_by taken closed_in m, in_shut, not_shut, shut_slots)

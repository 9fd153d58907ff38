-- The jobs of the board that arrays hold, by their places.
use mathlib.Core.Path.{◌≡◌, sym, ap, ap₂, ◌∙◌, subst}
use mathlib.Core.Logic.{⊎_elim}
use mathlib.Core.List.Memᴰ
use mathlib.Core.List.{List, Memᴰ}
use Prim.Native.Nat.{ℕ, zero, suc, ◌+◌, ◌-◌, ◌/◌, ◌%◌, ◌^◌, ◌≤◌, ◌<◌}
use native.Mathlib.Nat.{mod-eq_of_lt}
use native.Mathlib.Omega.{arith}
use lib.ListN.{get_or, replicate}
use lib.Seq.{take_at}
use Rattle.lists.proofs.Filling.{take_least}
use Rattle.lists.proofs.Members.{select_mem, mem_select}
use Rattle.rule.specs.Job.{Job, laxity}
use Rattle.board.specs.declared.Place.{Place}
use Rattle.board.specs.Limits.{places_held, longest_laxity, last_slot, deepest}
use Rattle.board.specs.Tally.{tally_grades}
use Rattle.board.specs.Held.{slot_of, job_in, blank, used, held}
use Rattle.board.proofs.Walk.{place_held}
use Rattle.packing.specs.declared.Head.{Head}
use Rattle.packing.specs.Inner.Packed.{key_of, place_of, place_in, places_in, in_use, filled_up, board_in}
use Rattle.packing.proofs.Places.{places_length, board_full, board_at}
use Rattle.counts.specs.Seen.{seen_job, seen}
use Rattle.counts.proofs.JobSeen.{JobSeen, facts_seen}
use Rattle.smallest.specs.Inner.Lowest.{LowestOf}
use Rattle.search.specs.Inner.Start.{Start}
use Rattle.search.proofs.Seeing.{member_seen}
use Rattle.search.proofs.SoonestFound.{Due}

-- a key is that of its last slot and its grade
key_back : (k : ℕ) → k / tally_grades ≤ suc last_slot + longest_laxity → key_of (k / tally_grades) (k % tally_grades) ≡ k
unfolding key_of tally_grades deepest last_slot longest_laxity
key_back k h = let m : k / 8 % 2 ^ 29 ≡ k / 8 = mod-eq_of_lt (omega arith) in omega (arith, m)

place_of_mem : (K T A : List ℕ) (n : ℕ) {x : Place} → Memᴰ x (places_in n K T A) → (i : ℕ) × (i < n) × (x ≡ place_in K T A i)
unfolding places_in
place_of_mem K T A zero m = absurd (Memᴰ.not-nil m)
place_of_mem K T A (suc n) {x} m =
    ⊎_elim
    {C = (i : ℕ) × (i < suc n) × (x ≡ place_in K T A i)}
    (λ k. let (i, h, e) = place_of_mem K T A n k in (i, omega (arith, h), e))
    (λ k. (n, omega arith, Memᴰ.eq_of_singleton k))
    (Memᴰ.append_cases (places_in n K T A) m)

module _ (h : Head) (K T A : List ℕ) where
  -- the places in use are those that the arrays have
  used_is : used (board_in h K T A) ≡ places_in (in_use h.count) K T A
  unfolding used board_in filled_up in_use
  used_is =
      let n = in_use h.count in
      sym (take_least n h.count (board_in h K T A).places (omega (arith, board_full h K T A)))
      ∙ take_at (places_in n K T A) (replicate (places_held - n) blank) n (places_length K T A n)

  -- a job on the board has a place, and a place a job
  place_of_job : {r : Job} → Memᴰ r (held (board_in h K T A)) → (i : ℕ) × (i < in_use h.count) × (r ≡ job_in (place_in K T A i))
  unfolding held
  place_of_job m =
      let (x, k, e) = Memᴰ.of_map job_in (used (board_in h K T A)) m in
      let (i, l, f) = place_of_mem K T A (in_use h.count) (subst (Memᴰ x) used_is k) in
      (i, l, sym e ∙ ap job_in f)

  in_count : (i : ℕ) → i < in_use h.count → i < (board_in h K T A).count
  unfolding board_in in_use
  in_count i l = omega arith

  job_of_place : (i : ℕ) → i < in_use h.count → Memᴰ (job_in (place_in K T A i)) (held (board_in h K T A))
  unfolding in_use
  job_of_place i l =
      subst (λ x. Memᴰ (job_in x) (held (board_in h K T A))) (board_at h K T A i l)
      (place_held (board_in h K T A) i (in_count i l) (omega (arith, board_full h K T A)))

  -- the job q that is baked, of the grade g and with laxity w
  module _ (small : (r : Job) → Memᴰ r (seen (board_in h K T A)) → r.grade < 2 ^ (board_in h K T A).depth) (g : ℕ) (fits : Start (board_in h K T A).depth g 0)
      (w : ℕ) (q : Job) (D : Due (slot_of (board_in h K T A)) (board_in h K T A).depth (seen (board_in h K T A)) small g fits w q) where
    facts : JobSeen (slot_of (board_in h K T A)) (board_in h K T A).depth q
    facts = member_seen (board_in h K T A) q D.member

    -- its last slot
    pub due_last : (1 ≤ w) × (slot_of (board_in h K T A) + w - 1 ≡ q.last) × (slot_of (board_in h K T A) + w ≤ suc last_slot + longest_laxity)
    unfolding laxity
    due_last = (omega (arith, D.least, facts.in_date), omega (arith, D.least, facts.in_date), omega (arith, D.least, facts.begun, facts.short))

    -- its ticket is the lowest of those with its key
    pub due_ticket : (r : ℕ) → LowestOf (in_use h.count) K T (key_of (slot_of (board_in h K T A) + w - 1) g) r → r ≡ q.ticket
    unfolding seen job_in place_of laxity
    due_ticket r L =
        let b = board_in h K T A in
        let f = facts in
        let (i, l, e) = place_of_job (select_mem (seen_job (slot_of b) b.depth) q (held b) D.member).0 in
        let same_last : get_or K i 0 / tally_grades ≡ q.last = sym (ap (λ (x : Job). x.last) e) in
        let same_grade : get_or K i 0 % tally_grades ≡ q.grade = sym (ap (λ (x : Job). x.grade) e) in
        let key : get_or K i 0 ≡ key_of (slot_of b + w - 1) g =
        sym (key_back (get_or K i 0) (omega (arith, due_last.1, due_last.2))) ∙ ap₂ key_of (same_last ∙ sym due_last.1) (same_grade ∙ D.of_grade) in
        let (j, o, at, ticket) = L.present i l key in
        let p = job_in (place_in K T A j) in
        let same_key : get_or K j 0 ≡ get_or K i 0 = at ∙ sym key in
        let last : p.last ≡ q.last = ap (λ k. k / tally_grades) {x = get_or K j 0} same_key ∙ same_last in
        let grade : p.grade ≡ q.grade = ap (λ k. k % tally_grades) {x = get_or K j 0} same_key ∙ same_grade in
        let seen_p : JobSeen (slot_of b) b.depth p
        = record { shallow = f.shallow; begun = f.begun; in_date = omega (arith, f.in_date, last); short = rw (ap (λ x. x + 1 - slot_of b) last) f.short; graded = omega (arith, f.graded, grade) } in
        let m = mem_select (seen_job (slot_of b) b.depth) (job_of_place j o) (facts_seen (slot_of b) b.depth p seen_p) in
        omega (arith, L.least i l key, ap (λ (x : Job). x.ticket) e, ticket, D.lowest p m (grade ∙ D.of_grade) last)

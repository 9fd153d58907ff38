-- What `bake` answers is what the slot bakes of the jobs seen.
use mathlib.Core.Path.{◌≡◌, refl, sym, ap, ◌∙◌}
use mathlib.Core.List.{List, [], Memᴰ}
use mathlib.Core.Option.{none, some}
use Rattle.std.specs.Prelude.{Option, Some, None, is_some, true, false}
use Rattle.board.specs.declared.Board.{Board}
use Prim.Native.Nat.{ℕ, suc, ◌+◌, ◌-◌, ◌^◌, ◌≤◌, ◌<◌}
use native.Mathlib.Omega.{arith}
use Rattle.lists.specs.Select.{select}
use Rattle.rule.specs.Job.{Job}
use Rattle.rule.specs.Grade.{starting}
use Rattle.rule.specs.Tight.{tight}
use Rattle.rule.specs.Descent.{no_regret_after, no_regret}
use Rattle.rule.specs.Shortfall.{below_zero, shortfall}
use Rattle.rule.specs.Bake.{soonest, baked}
use Rattle.board.specs.Limits.{longest_laxity, last_slot, deepest}
use Rattle.board.specs.Held.{slot_of, slot_number}
use Rattle.packing.specs.declared.Packed.{Packed}
use Rattle.packing.specs.Inner.Packed.{key_of, in_use, board_in, board_of}
use Rattle.counts.specs.Seen.{seen}
use Rattle.counts.specs.Counts.{Counted}
use Rattle.smallest.specs.declared.Best.{Best}
use Rattle.search.specs.Inner.Seen.{bakes_seen}
use Rattle.search.specs.Inner.Counts.{CountsOf}
use Rattle.search.specs.Inner.Start.{Start}
use Rattle.smallest.specs.Inner.Excess.{smallest_in}
use Rattle.search.specs.Inner.Answers.{TightOf, EndsAt, LeastOf}
use Rattle.smallest.specs.Inner.Lowest.{LowestOf}
use Rattle.search.specs.Inner.Found.{chosen_of}
use Rattle.search.proofs.Seeing.{member_seen, counts_seen, counts_seen_deepest}
use Rattle.search.proofs.SmallestFound.{shortfall_found, no_job, some_job}
use Rattle.search.proofs.SoonestFound.{Due, due}
use Rattle.search.proofs.Placed.{due_last, due_ticket}

-- no job is seen
baked_none : (now d : ℕ) (A : List Job) → A ≡ [] → baked now d A ≡ none
unfolding baked no_regret no_regret_after tight starting select soonest
baked_none now d A e = rw e refl

-- the jobs seen of the board that the arrays hold, by their counts, with the tight laxity of all of them
module _ (p : Packed) {t : List ℕ} (C : Counted (slot_of (board_of p)) (seen (board_of p)) t) (all : Option Best) (Z : TightOf t 0 deepest all) where
  abbrev b : Board
  b = board_of p

  deep : CountsOf (slot_of b) deepest (seen b) t
  deep = counts_seen_deepest b C

  pub shortfall_seen : below_zero (smallest_in all) ≡ shortfall (slot_of b) (seen b)
  shortfall_seen = shortfall_found (slot_of b) deepest (seen b) t deep all Z

  pub nothing : is_some all ≡ false → None ≡ chosen_of (bakes_seen b)
  unfolding bakes_seen
  nothing z = sym (ap chosen_of (baked_none (slot_of b) b.depth (seen b) (no_job (slot_of b) deepest (seen b) t deep all Z z)))

  module _ (any : is_some all ≡ true) where
    job : (r : Job) × Memᴰ r (seen b)
    job = some_job (slot_of b) deepest (seen b) t deep all Z any

    -- the depth is one of the board's
    pub shallow : p.head.depth ≤ deepest
    unfolding board_in
    shallow = (member_seen b job.0 job.1).shallow

    -- the descent ends at the grade g, of which w is the least laxity
    module _ (g w : ℕ) (E : EndsAt t 0 p.head.depth g) (W : LeastOf t g w) where
      fits : Start b.depth g 0
      unfolding board_in
      fits = omega (arith, E.1)

      small : (r : Job) → Memᴰ r (seen b) → r.grade < 2 ^ b.depth
      small r m = (member_seen b r m).graded

      found : (q : Job) × Due (slot_of b) b.depth (seen b) small g fits w q
      unfolding board_in
      found =
          let own = counts_seen b C shallow in
          due (slot_of b) b.depth (seen b) small g fits w job.1 (E.0 (slot_of b) b.depth (seen b) (omega arith) own) (W (slot_of b) b.depth (seen b) fits own)

      abbrev D : Due (slot_of b) b.depth (seen b) small g fits w found.0
      D = found.1

      last_is : (1 ≤ w) × (slot_of b + w - 1 ≡ found.0.last) × (slot_of b + w ≤ suc last_slot + longest_laxity)
      last_is = due_last p.head p.keys p.tickets p.admitted small g fits w found.0 D

      pub last_fits : (1 ≤ w) × (p.head.slot.0 + w ≤ suc last_slot + longest_laxity)
      unfolding board_in
      last_fits = (last_is.0, last_is.2)

      pub job_found : (r : ℕ) → LowestOf (in_use p.head.count) p.keys p.tickets (key_of (p.head.slot.0 + w - 1) g) r
          → Some (record { ticket = r; grade = g; last = slot_number (p.head.slot.0 + w - 1) }) ≡ chosen_of (bakes_seen b)
      unfolding board_in bakes_seen
      job_found r L =
          let t : r ≡ found.0.ticket = due_ticket p.head p.keys p.tickets p.admitted small g fits w found.0 D r L in
          let same : Some (record { ticket = r; grade = g; last = slot_number (p.head.slot.0 + w - 1) }) ≡ chosen_of (some found.0) =
          λ j. Some (record { ticket = t j; grade = sym D.of_grade j; last = slot_number (last_is.1 j) }) in
          same ∙ sym (ap chosen_of D.is_baked)

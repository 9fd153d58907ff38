-- The jobs of a board that are seen, and their counts.
use mathlib.Core.List.{List, Memᴰ}
use Prim.Native.Nat.{ℕ, ◌^◌, ◌≤◌, ◌<◌}
use native.Mathlib.Omega.{arith}
use lib.Pow.{pow_mono}
use Rattle.lists.proofs.Members.{select_mem}
use Rattle.rule.specs.Job.{Job, laxity}
use Rattle.board.specs.declared.Board.{Board}
use Rattle.board.specs.Limits.{deepest}
use Rattle.board.specs.Held.{slot_of, held}
use Rattle.counts.specs.Seen.{seen_job, seen}
use Rattle.counts.specs.Counts.{Counted}
use Rattle.counts.proofs.JobSeen.{JobSeen, seen_facts}
use Rattle.search.specs.Inner.Counts.{CountsOf}

pub member_seen : (b : Board) (r : Job) → Memᴰ r (seen b) → JobSeen (slot_of b) b.depth r
unfolding seen
member_seen b r m = seen_facts _ _ r (select_mem (seen_job (slot_of b) b.depth) r (held b) m).1

-- the board's counts are those of the jobs seen
module _ (b : Board) {t : List ℕ} (C : Counted (slot_of b) (seen b) t) where
  at_depth : (d : ℕ) → d ≤ deepest → ((r : Job) → Memᴰ r (seen b) → r.grade < 2 ^ d) → CountsOf (slot_of b) d (seen b) t
  unfolding laxity
  at_depth d h g =
      record { counted = C; shallow = h; in_date = λ r m. omega (arith, (member_seen b r m).in_date); short = λ r m. (member_seen b r m).short; graded = g }

  pub counts_seen : b.depth ≤ deepest → CountsOf (slot_of b) b.depth (seen b) t
  counts_seen h = at_depth b.depth h (λ r m. (member_seen b r m).graded)

  -- at the greatest depth too, whatever the board's
  pub counts_seen_deepest : CountsOf (slot_of b) deepest (seen b) t
  counts_seen_deepest =
      at_depth deepest (omega arith) (λ r m. let s = member_seen b r m in omega (arith, s.graded, pow_mono s.shallow))

-- What the search hands up.
use Rattle.std.specs.Prelude.{◌≡◌, List, ℕ, Option, Some, None}
use Rattle.std.proofs.Math.Option.{Option as Optional, none, some}
use Rattle.rule.specs.Job.{Job}
use Rattle.rule.specs.Shortfall.{shortfall}
use Rattle.rule.specs.Promise.{least_promised}
use Rattle.board.specs.declared.Board.{Board}
use Rattle.board.specs.Limits.{longest_laxity}
use Rattle.board.specs.Held.{slot_of, slot_number}
use Rattle.packing.specs.declared.Head.{Head}
use Rattle.packing.specs.Inner.Packed.{board_in}
use Rattle.counts.specs.Seen.{seen}
use Rattle.counts.specs.Counts.{Counted}
use Rattle.search.specs.declared.Baked.{Baked}
use Rattle.search.specs.declared.Chosen.{Chosen}
use Rattle.search.specs.Inner.Seen.{bakes_seen}

-- the last slot of a job, 0 where there is none
unfoldable pub last_of : Optional Job → ℕ
last_of none = 0
last_of (some r) = r.last

-- a job as the search hands it up
abbrev pub chosen_of : Optional Job → Option Chosen
chosen_of none = None
chosen_of (some r) = Some (record { ticket = r.ticket; grade = r.grade; last = slot_number r.last })

-- the job that the slot bakes of those that are seen, their shortfall, and their counts
pub record BakedSeen (b : Board) (r : Baked) : Type 0 where
  pub job : r.job ≡ chosen_of (bakes_seen b)
  pub shortfall : r.shortfall ≡ shortfall (slot_of b) (seen b)
  pub counts : Counted (slot_of b) (seen b) r.counts

-- so for every board that the arrays can be of, whenever its jobs were admitted
abbrev pub ChosenPacked : Head → (keys tickets : List ℕ) → Option Chosen → Type 0
ChosenPacked h K T r = (A : List ℕ) → r ≡ chosen_of (bakes_seen (board_in h K T A))

abbrev pub BakedPacked : Head → (keys tickets : List ℕ) → Baked → Type 0
BakedPacked h K T r = (A : List ℕ) → BakedSeen (board_in h K T A) r

-- w is the least laxity that one job more can have beside the jobs seen, whatever their tickets are and when they were admitted
abbrev pub PromisedPacked : Head → (keys : List ℕ) → (w : ℕ) → Type 0
PromisedPacked h K w = (T A : List ℕ) → w ≡ least_promised longest_laxity (slot_of (board_in h K T A)) (seen (board_in h K T A))

-- What soundness says of a board, as facts about its numbers and its jobs.
use mathlib.Core.Path.{◌≡◌}
use mathlib.Core.Bool.{true}
use mathlib.Core.List.{List, map, Memᴰ}
use Prim.Native.Nat.{ℕ, suc, ◌-◌, ◌^◌, ◌≤◌, ◌<◌}
use lib.Dec.{eqb}
use lib.ListN.{length, drop}
use Rattle.lists.specs.Select.{how_many}
use Rattle.lists.specs.Rise.{rise, never_fall}
use Rattle.rule.specs.Job.{Job}
use Rattle.board.specs.declared.Place.{Place}
use Rattle.board.specs.declared.Board.{Board}
use Rattle.board.specs.Limits.{longest_laxity, most_in_slot, places_held, last_slot, deepest}
use Rattle.board.specs.Held.{slot_of, blank, held}

-- a job of a sound board
pub record JobFacts (b : Board) (r : Job) : Type 0 where
  pub known : r.ticket ≤ b.highest
  pub begun : r.admitted ≤ slot_of b
  pub in_date : slot_of b ≤ r.last
  pub short : r.last - r.admitted < longest_laxity
  pub graded : r.grade < 2 ^ b.depth

-- how many jobs of a list were admitted in a slot
abbrev pub admitted_in : ℕ → List Job → ℕ
admitted_in k A = how_many (λ (q : Job). eqb q.admitted k) A

pub record SoundFacts (b : Board) : Type 0 where
  pub full : length b.places ≡ places_held
  pub shallow : b.depth ≤ deepest
  pub from_first : 1 ≤ slot_of b
  pub to_last : slot_of b ≤ suc last_slot
  pub counted : b.count ≤ places_held
  pub blank_past : (x : Place) → Memᴰ x (drop b.count b.places) → x ≡ blank
  pub tickets_rise : rise 0 (map (λ (r : Job). r.ticket) (held b)) ≡ true
  pub slots_in_order : never_fall 1 (map (λ (r : Job). r.admitted) (held b)) ≡ true
  pub each : (r : Job) → Memᴰ r (held b) → JobFacts b r
  pub intake : (r : Job) → Memᴰ r (held b) → admitted_in r.admitted (held b) ≤ most_in_slot

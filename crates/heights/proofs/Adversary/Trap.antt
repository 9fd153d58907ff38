-- To be beaten at order j: there are arrivals on which whoever took w, and goes on by order j, has fewer jobs of some start u0, u of j bits, than whoever
-- took v, and goes on by order j + 1. The arrivals are lists of items, each with an allowed grade and not out of date in the slot in which it arrives.
use mathlib.Core.Path.{◌≡◌}
use mathlib.Core.Bool.{Bool}
use mathlib.Core.List.{List, ◌++◌}
use Prim.Native.Nat.{ℕ, suc, ◌+◌, ◌≤◌, ◌<◌}
use lib.ListN.{length}
use Rattle.heights.proofs.Trees.Tree.{Tree, join_tree}
use Rattle.heights.proofs.Trees.Run.{starts, Count, Run}
use Rattle.heights.proofs.Trees.Flatten.{zero_bit}
use Rattle.heights.proofs.Items.Item.{count}
use Rattle.heights.proofs.Items.Tree.{tree, slots}
use Rattle.heights.proofs.Adversary.Allowed.{Grades, Arrivals}
use Rattle.heights.proofs.Adversary.Arrivals.{AllBy}

pub record Beaten (ok : Grades) (j d n : ℕ) (A B : Tree d) (w v : List Bool) : Type 0 where
  pub u : List Bool
  pub bits : length u ≡ j
  pub by : Arrivals ok d n
  pub wins : (c e : Count) → Run j d (suc n) (join_tree d A (tree d by.first)) (slots d by.later) c
      → Run (suc j) d (suc n) (join_tree d B (tree d by.first)) (slots d by.later) e
      → starts (u ++ zero_bit) w + c (u ++ zero_bit) < starts (u ++ zero_bit) v + e (u ++ zero_bit)

-- so made that the first arrivals hold the stuffing with last slot l, and nothing can wait past it
pub record Trap (ok : Grades) (j d n L : ℕ) (A B : Tree d) (w v : List Bool) : Type 0 where
  pub answer : Beaten ok j d n A B w v
  pub l : ℕ
  pub date : n < l
  pub upto : l ≤ L
  pub stuffs : l + 1 ≤ count answer.by.first l + n
  pub first_by : count answer.by.first (suc l) ≡ 0
  pub later_by : AllBy l answer.by.later
  pub few : length answer.by.later + n ≤ l

-- or w is less at once
pub record Behind (j : ℕ) (w v : List Bool) : Type 0 where
  pub u : List Bool
  pub bits : length u ≡ j
  pub less : starts (u ++ zero_bit) w < starts (u ++ zero_bit) v

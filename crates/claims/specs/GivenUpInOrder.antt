-- The order of the jobs given up. 02, Four: 'Racks given up are listed by grade from best to worst, within a grade by rising ticket.'
use Rattle.std.specs.Prelude.{◌≡◌, true, ℕ}
use mathlib.Core.List.{List, Perm}
use Rattle.lists.specs.Select.{select}
use Rattle.lists.specs.Sorted.{ordered}
use Rattle.rule.specs.Job.{Job}
use Rattle.rule.specs.Bake.{expires}
use Rattle.board.specs.declared.Board.{Board}
use Rattle.board.specs.Held.{slot_of, held}
use Rattle.board.specs.Sound.{sound}
use Rattle.board.specs.Close.{listed_before, given_up_with}

-- the list L has each of the jobs A once and no other, in that order
pub record InOrder (A L : List Job) : Type 0 where
  pub each_once : Perm L A
  pub in_order : ordered listed_before L ≡ true

-- On every sound board, whichever ticket is baked, the jobs given up stand so, and in no other list do they.
unfoldable pub GivenUpInOrder : Type 0
GivenUpInOrder =
    (b : Board) (t : ℕ) → sound b ≡ true
    → let A = select (expires (slot_of b) t) (held b) in InOrder A (given_up_with b t) × ((L : List Job) → InOrder A L → L ≡ given_up_with b t)

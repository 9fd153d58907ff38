-- A job put on a board: in the first free place, where there is one.
use mathlib.Core.Path.{◌≡◌}
use Prim.Native.Nat.{◌≤◌, ◌<◌}
use lib.Dec.{leb}
use borrow.Author.Tests.{le-leb, lt-leb}
use Rattle.lists.proofs.Tests.{cond_true, cond_false}
use Rattle.board.specs.declared.Place.{Place}
use Rattle.board.specs.declared.Board.{Board}
use Rattle.board.specs.Limits.{places_held}
use Rattle.admitting.specs.Inner.Placed.{with_place, with_place_if_free}

module _ (b : Board) (job : Place) where
  pub put_if_full : places_held ≤ b.count → with_place_if_free b job ≡ b
  unfolding with_place_if_free
  put_if_full h = cond_true (leb places_held b.count) _ _ (le-leb places_held b.count h)

  pub put_if_free : b.count < places_held → with_place_if_free b job ≡ with_place b job
  unfolding with_place_if_free
  put_if_free h = cond_false (leb places_held b.count) _ _ (lt-leb places_held b.count h)

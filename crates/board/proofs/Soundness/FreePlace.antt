-- A sound board with fewer jobs of its slot than a slot may take has a free place.
use mathlib.Core.Path.{◌≡◌}
use mathlib.Core.Bool.{true}
use Prim.Native.Nat.{◌<◌}
use Rattle.board.specs.declared.Board.{Board}
use Rattle.board.specs.Limits.{most_in_slot, places_held}
use Rattle.board.specs.Held.{in_slot}
use Rattle.board.specs.Sound.{sound}
use Rattle.board.proofs.Soundness.Apart.{facts}
use Rattle.board.proofs.Soundness.Room.{room}

pub free_place : (b : Board) → sound b ≡ true → in_slot b < most_in_slot → b.count < places_held
free_place b s = room b (facts b s)

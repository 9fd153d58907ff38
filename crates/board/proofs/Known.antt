-- What holding a board tells: it has all its places.
use mathlib.Core.Path.{◌≡◌}
use mathlib.Core.List.{List}
use lib.ListN.{length}
use mir.Val.{Val}
use denote.Laws.{Is}
use denote.Struct.Declared.{row}
use Rattle.board.specs.declared.Board.{Board}
use Rattle.board.specs.Limits.{places_held}
use Rattle.board.specs.contracts.Board.{the_type}

pub all_places : (b : Board) (vs : List Val) → Is (row the_type) b vs → length b.places ≡ places_held
unfolding places_held
all_places b vs g = g.1.1.1.1.1.1.0.1.0.1

-- The flag, and the test of the places that are left, are the test of all.
use mathlib.Core.Path.{◌≡◌}
use mathlib.Core.Bool.{◌&&◌}
use lib.ListN.{drop}
use Rattle.lists.specs.Select.{every}
use Rattle.board.specs.Sound.{is_blank}
use Rattle.soundness.proofs.all_blank.Given as goal

abbrev pub invariant-loop-x : goal.invariant-loop-x
invariant-loop-x l = (l.blank && every is_blank (drop l.x-index l.places)) ≡ every is_blank l.places

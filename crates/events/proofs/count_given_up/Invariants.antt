use mathlib.Core.Path.{◌≡◌}
use mathlib.Core.List.{map}
use lib.ListN.{drop}
use Rattle.board.specs.Events.{given_up_kind, event, fed}
use Rattle.events.proofs.count_given_up.Given as goal

-- the events that are left come after those counted
abbrev pub invariant-loop-grade : goal.invariant-loop-grade
invariant-loop-grade l =
    fed l.tally (map (event given_up_kind) (drop l.grade-index l.grades)) ≡ fed l.initial.tally (map (event given_up_kind) l.grades)

use mathlib.Core.List.{map}
use Rattle.worklist.proofs.Collecting.{Along}
use Rattle.worklist.proofs.Pieces.{as_line}
use Rattle.worklist.proofs.collect.Given as goal

abbrev pub invariant-loop-piece : goal.invariant-loop-piece
invariant-loop-piece l = Along (map (λ x. as_line x.now) l.yielded) l.jobs

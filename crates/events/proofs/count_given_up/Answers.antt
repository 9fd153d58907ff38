-- The events that are left come after those counted.
use mathlib.Core.Path.{sym, ap, ◌∙◌}
use mathlib.Core.List.{map}
use Prim.Native.Nat.{◌+◌}
use lib.ListN.{drop}
use Rattle.board.specs.declared.Tally.{Tally}
use Rattle.board.specs.Events.{given_up_kind, event, fed}
use Rattle.events.proofs.Left.{next_event, no_event}
use Rattle.events.proofs.count_given_up.Goals as goal

pub loop-grade-preserved : goal.loop-grade-preserved
unfolding given_up_kind
loop-grade-preserved c =
    let rest = drop (c.loop-grade.grade-index + 1) c.args.grades.now in
    rw c.from.ensures at (ap (λ (t : Tally). fed t (map (event given_up_kind) rest)) c.feed.ensures) ∙ sym (next_event given_up_kind _ _ _ c.loop-grade-test.true) ∙ c.loop-grade.invariant

pub returns : goal.returns
returns c = sym (no_event given_up_kind _ _ _ c.loop-grade-test.false) ∙ c.loop-grade.invariant

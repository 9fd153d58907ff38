use mathlib.Core.Path.{sym}
use Rattle.worklist.proofs.Gathering.{room, no_room}
use Rattle.worklist.proofs.add_window.Goals as goal

pub returns-then-at-lt-MOST : goal.returns-then-at-lt-MOST
returns-then-at-lt-MOST c = sym (room _ _ c.if-at-lt-MOST.true)

pub returns-else-at-lt-MOST : goal.returns-else-at-lt-MOST
returns-else-at-lt-MOST c = sym (no_room _ _ c.if-at-lt-MOST.false)

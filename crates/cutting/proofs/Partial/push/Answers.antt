-- A byte more while there is room, none after that.
use native.Mathlib.Omega.{arith}
use Rattle.lines.specs.Reading.{longest_line}
use Rattle.lines.specs.Machine.{partial_room}
use Rattle.cutting.specs.Cut.{partial_bytes}
use Rattle.cutting.proofs.Extending.{byte_added, none_added}
use Rattle.cutting.proofs.Partial.push.Goals as goal

pub returns-then-at-lt-ROOM-clause-line : goal.returns-then-at-lt-ROOM-clause-line
unfolding partial_bytes partial_room longest_line
returns-then-at-lt-ROOM-clause-line c = let h = c.args.self.now in byte_added h.bytes h.len c.args.byte (omega arith) c.if-at-lt-ROOM.true

pub returns-then-at-lt-ROOM-clause-few : goal.returns-then-at-lt-ROOM-clause-few
unfolding partial_room longest_line
returns-then-at-lt-ROOM-clause-few c h = omega arith

pub returns-else-at-lt-ROOM-clause-line : goal.returns-else-at-lt-ROOM-clause-line
unfolding partial_bytes partial_room longest_line
returns-else-at-lt-ROOM-clause-line c = let h = c.args.self.now in none_added h.bytes h.len c.args.byte (omega arith) c.if-at-lt-ROOM.false

-- Row 3, and then what the search finds.
use Rattle.std.proofs.Common.{ap, eq-eqb, ne_eqb}
use Rattle.board.specs.Limits.{last_slot}
use Rattle.board.specs.Rows.{◌if◌, first_given, promise_rows}
use Rattle.board.specs.Promise.{promised_with}
use Rattle.packing.specs.Inner.Packed.{board_in}
use Rattle.promising.specs.Inner.Seen.{promised_seen}
use Rattle.promising.proofs.promise_packed.Goals as goal

pub returns-then-b-clause-promised : goal.returns-then-b-clause-promised
unfolding promised_seen board_in promise_rows first_given ◌if◌ promised_with last_slot
returns-then-b-clause-promised c T A = simp (eq-eqb _ _ c.if-b.true)

pub returns-clause-promised : goal.returns-clause-promised
unfolding promised_seen board_in promise_rows first_given ◌if◌ promised_with last_slot
returns-clause-promised c T A = simp (ne_eqb _ _ c.if-b.false) (ap (promised_with 0) (c.promise.ensures.least T A))

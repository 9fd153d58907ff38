-- What a closing in place answers, as 01's answer.
use Rattle.std.specs.Prelude.{Result, Ok, Err}
use Rattle.board.specs.declared.Board.{Board}
use Rattle.board.specs.declared.Closed.{Closed}
use Rattle.board.specs.declared.refusal.Refusal.{Refusal}
use Rattle.board.specs.Close.{closed_refused}
use Rattle.board.specs.Refusals.{number_of}
use Rattle.closing.specs.declared.ClosedSlot.{ClosedSlot}

-- with the board that it leaves
unfoldable pub closed_answer : Result ClosedSlot Refusal → Board → Closed
closed_answer (Ok s) b = record { refusal = 0; ticket = s.ticket; grade = s.grade; listed = s.listed; shortfall = s.shortfall; board = b }
closed_answer (Err r) b = closed_refused (number_of r) b

-- What a Result of admitting says beside the board that it leaves.
use Rattle.std.specs.Prelude.{Result, Ok, Err}
use Rattle.board.specs.declared.Slot.{Slot}
use Rattle.board.specs.declared.Board.{Board}
use Rattle.board.specs.declared.Admitted.{Admitted}
use Rattle.board.specs.declared.refusal.Refusal.{Refusal}
use Rattle.board.specs.Held.{slot_number}
use Rattle.board.specs.Refusals.{number_of}

-- 01's answer: 'whatever else the answer holds besides the number is then 0'
abbrev pub admitted_answer : Result Slot Refusal → Board → Admitted
admitted_answer (Ok last) b = record { refusal = 0; last = last; board = b }
admitted_answer (Err r) b = record { refusal = number_of r; last = slot_number 0; board = b }

-- The answer of the call, by what the code inside it gives.
use Rattle.std.specs.Prelude.{List, ℕ, replicate, Result, Ok, Err}
use Rattle.board.specs.declared.refusal.Refusal.{Refusal}
use Rattle.board.specs.Refusals.{number_of}
use Rattle.matching.specs.declared.BestDay.{BestDay}
use Rattle.matching.specs.Windows.{most_jobs}

-- the slots, or the number of the refusal and no slot
abbrev pub answer_of : Result (List ℕ) Refusal → BestDay
answer_of (Ok slots) = record { refusal = 0; slots = slots }
answer_of (Err r) = record { refusal = number_of r; slots = replicate most_jobs 0 }

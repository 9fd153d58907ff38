-- The day that the program holds between two lines, as a session; and what a line does.
use Rattle.std.specs.Prelude.{◌≡◌, true, Bool, List, ℕ, ◌≤◌, length, take, Result, Ok, Err, Option, Some, None}
use Rattle.std.proofs.Math.Option.{Option as OptionHeld, none, some}
use Rattle.board.specs.declared.Board.{Board}
use Rattle.board.specs.declared.Tally.{Tally}
use Rattle.board.specs.declared.refusal.Refusal.{Refusal}
use Rattle.board.specs.Limits.{places_held}
use Rattle.board.specs.Sound.{sound}
use Rattle.board.specs.Refusals.{number_of}
use Rattle.lines.specs.Session.{Session, Step, session_after}
use Rattle.answers.specs.Printed.{answer_of}
use Rattle.answers.specs.declared.Answer.{Answer as AnswerHeld}
use Rattle.answers.specs.declared.Answer.TheVariants.{Refused}
use Rattle.packing.specs.declared.Packed.{Packed}
use Rattle.packing.specs.Inner.Packed.{board_of}
use Rattle.session.specs.declared.Day.{Day}
use Rattle.session.specs.declared.Stepped.{Stepped}

-- the board that is open, if one is
abbrev pub board_held : Option Packed → OptionHeld Board
board_held None = none
board_held (Some p) = some (board_of p)

unfoldable pub session_of : Day → Session
session_of d = record { board = board_held d.board; tally = d.tally }

abbrev pub sound_held : Option Packed → Bool
sound_held None = true
sound_held (Some p) = sound (board_of p)

-- an open board is sound
abbrev pub GoodDay : Day → Type 0
GoodDay d = sound_held d.board ≡ true

-- the day while a board is open
abbrev pub open_day : Packed → Tally → Day
open_day p t = record { board = Some p; tally = t }

-- the day after a line, its answer, and how many jobs given up stand in the lists
pub record SteppedDay : Type 0 where
  pub day : Day
  pub answer : AnswerHeld
  pub listed : ℕ

abbrev pub done : Stepped → Day → SteppedDay
done r d = record { day = d; answer = r.answer; listed = r.listed }

-- a line done and the day after it; a refusal is answered with its number
abbrev pub stepped_to : Result Stepped Refusal → Day → SteppedDay
stepped_to (Ok r) d = done r d
stepped_to (Err r) d = record { day = d; answer = Refused (number_of r); listed = 0 }

-- so for a line that lists no jobs
abbrev pub answered_to : Result AnswerHeld Refusal → Day → SteppedDay
answered_to (Ok x) d = record { day = d; answer = x; listed = 0 }
answered_to (Err r) d = record { day = d; answer = Refused (number_of r); listed = 0 }

-- a step done on a day: the day after it has the session after the step, and its answer has the jobs given up first in two lists
pub record Did (day : Day) (a : Step) (r : SteppedDay) (tickets grades : List ℕ) : Type 0 where
  pub good : GoodDay r.day
  pub session : session_of r.day ≡ session_after (session_of day) a
  pub few : r.listed ≤ places_held
  pub answer : answer_of r.answer (take r.listed tickets) (take r.listed grades) ≡ a.answer

-- without any such job, whatever the lists hold
abbrev pub DidAlone : Day → Step → SteppedDay → Type 0
DidAlone day a r = (tickets grades : List ℕ) → Did day a r tickets grades

-- three lists with an entry for every place of a board
abbrev pub Room : (tickets grades slots : List ℕ) → Type 0
Room T G S = (length T ≡ places_held) × (length G ≡ places_held) × (length S ≡ places_held)

-- The refusals by name, and the number that 01 and 02 give each of them.
use Rattle.std.specs.Prelude.{ℕ, Result, Ok, Err}
use Rattle.board.specs.declared.refusal.Refusal.{Refusal}
use Rattle.board.specs.declared.refusal.Refusal.TheVariants.{TooDeep, NotSound, BookEnded, TicketNotHigher, LaxityOutside, GradeTooHigh, SlotFull, ListTooShort, NoSuchEvent, CountFull, LineTooLong, NoLetter, FieldCount, NotANumber, NotNow, BadFigures, NotToWithdraw, TooManyJobs, NoWindow}

-- the number of the row
abbrev pub number_of : Refusal → ℕ
number_of TooDeep = 1
number_of NotSound = 2
number_of BookEnded = 3
number_of TicketNotHigher = 4
number_of LaxityOutside = 5
number_of GradeTooHigh = 6
number_of SlotFull = 7
number_of ListTooShort = 8
number_of NoSuchEvent = 9
number_of CountFull = 10
number_of LineTooLong = 11
number_of NoLetter = 12
number_of FieldCount = 13
number_of NotANumber = 14
number_of NotNow = 15
number_of BadFigures = 16
number_of NotToWithdraw = 17
number_of TooManyJobs = 18
number_of NoWindow = 19

-- 'the number of a refusal, or 0' where there is none
abbrev pub refusal_number : {A : Type 0} → Result A Refusal → ℕ
refusal_number (Ok x) = 0
refusal_number (Err r) = number_of r

-- A refusal has a number, which is not 0: that of a Result tells whether it is one.
use Rattle.std.proofs.Common.{◌≡◌, ◌≢◌, ℕ, true, false, Result, Ok, Err, refl}
use Rattle.std.specs.Result.{is_err}
use Rattle.board.specs.declared.refusal.Refusal.{Refusal}
use Rattle.board.specs.declared.refusal.Refusal.TheVariants.{TooDeep, NotSound, BookEnded, TicketNotHigher, LaxityOutside, GradeTooHigh, SlotFull, ListTooShort, NoSuchEvent, CountFull, LineTooLong, NoLetter, FieldCount, NotANumber, NotNow, BadFigures, NotToWithdraw, TooManyJobs, NoWindow}
use Rattle.board.specs.Refusals.{number_of, refusal_number}
use native.Mathlib.Omega.{arith}

pub some_number : (r : Refusal) → number_of r ≢ 0
some_number TooDeep = omega arith
some_number NotSound = omega arith
some_number BookEnded = omega arith
some_number TicketNotHigher = omega arith
some_number LaxityOutside = omega arith
some_number GradeTooHigh = omega arith
some_number SlotFull = omega arith
some_number ListTooShort = omega arith
some_number NoSuchEvent = omega arith
some_number CountFull = omega arith
some_number LineTooLong = omega arith
some_number NoLetter = omega arith
some_number FieldCount = omega arith
some_number NotANumber = omega arith
some_number NotNow = omega arith
some_number BadFigures = omega arith
some_number NotToWithdraw = omega arith
some_number TooManyJobs = omega arith
some_number NoWindow = omega arith

pub refused_number : (r : Result (Unit {0}) Refusal) → is_err r ≡ true → refusal_number r ≢ 0
refused_number (Ok x) e = cc
refused_number (Err r) e = some_number r

pub taken_number : (r : Result (Unit {0}) Refusal) → is_err r ≡ false → refusal_number r ≡ 0
taken_number (Ok x) e = refl
taken_number (Err r) e = cc

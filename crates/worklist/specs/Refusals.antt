-- Which line of a list of racks is refused, and with which number.
use Rattle.std.specs.Prelude.{cond, List, [], ◌∷◌, ℕ, zero, suc, ltb, length, take}
use Rattle.std.proofs.Math.Option.{Option, none, some}
use Rattle.board.specs.Rows.{Row, first_given}
use Rattle.lines.specs.Bytes.{Bytes}
use Rattle.matching.specs.Windows.{most_jobs}
use Rattle.worklist.specs.declared.Refused.{Refused}
use Rattle.worklist.specs.Lines.{window_rows, slot_rows}

-- the i-th line with the number that it is given; where it is given none, what comes after it
unfoldable pub refused_or : ℕ → (i : ℕ) → Option Refused → Option Refused
refused_or zero i rest = rest
refused_or (suc n) i rest = some (record { line = i; number = suc n })

-- the first of the lines, counted from i on, that one of these rows is given for
unfoldable pub first_refused : (Bytes → List Row) → (i : ℕ) → List Bytes → Option Refused
first_refused rows i [] = none
first_refused rows i (l ∷ ls) = refused_or (first_given (rows l)) i (first_refused rows (suc i) ls)

-- the first of two refusals that there is
unfoldable pub or_else : Option Refused → Option Refused → Option Refused
or_else (some r) other = some r
or_else none other = other

-- the lines that are read: a list has no more than this many, or it is refused
unfoldable pub read_lines : List Bytes → List Bytes
read_lines ls = take (suc most_jobs) ls

-- '18 for more than 64 racks': at the first line that is one too many
unfoldable pub too_many : List Bytes → Option Refused
too_many ls = cond (ltb most_jobs (length ls)) (some (record { line = suc most_jobs; number = 18 })) none

-- '18 [..], then 19'
unfoldable pub call_refused : List Bytes → Option Refused
call_refused ls = or_else (too_many ls) (first_refused slot_rows 1 ls)

-- 01: 'the line rows [..] come before those of the call'
unfoldable pub refused_in : List Bytes → Option Refused
refused_in ls = or_else (first_refused window_rows 1 (read_lines ls)) (call_refused ls)

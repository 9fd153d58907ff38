-- What the fields of a line ask for.
use Rattle.std.specs.Prelude.{Result as Tried}
use Rattle.board.specs.declared.refusal.Refusal.{Refusal}
use Rattle.lines.specs.Reading.{Request, open_board, admit_job, close_slot, ask_promise, withdraw_job}
use Rattle.fields.specs.Results.{Result, answer_as}
use Rattle.fields.specs.Grades.{grade_of}
use Rattle.requests.specs.declared.Asked.{Asked}
use Rattle.requests.specs.declared.Asked.TheVariants.{Open, Admit, Close, Promise, Withdraw}

-- what a line asks for, as the definitions read it
abbrev pub request_of : Asked → Request
request_of (Open d) = open_board d
request_of (Admit t w g) = admit_job t w.0 (grade_of g)
request_of Close = close_slot
request_of Promise = ask_promise
request_of (Withdraw t) = withdraw_job t

-- the number of the row that refuses, or the request
abbrev pub asked_result : Tried Asked Refusal → Result Request
asked_result r = answer_as request_of r

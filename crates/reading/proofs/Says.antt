-- What an answer says of the line: for the callers of `read_line`.
use mathlib.Core.Path.{◌≡◌}
use mathlib.Core.Bool.{Bool}
use mathlib.Core.Option.{none, some}
use Prim.Native.Nat.{ℕ, ◌<◌}
use Rattle.lines.specs.Bytes.{Bytes}
use Rattle.lines.specs.Reading.{line_number, Request, request}
use Rattle.reading.specs.Answers.{line_result}
use Rattle.requests.proofs.Results.{number_given, values_given}

module _ (opened : Bool) (l : Bytes) where
  -- a refusal gives the number of the first row that is given
  pub refused_says : (n : ℕ) → (n, none) ≡ line_result opened l → (line_number opened l ≡ n) × (0 < n)
  unfolding line_result
  refused_says n e = number_given (line_number opened l) (request l) n e

  -- a request is the line's, and no row is given
  pub asked_says : (q : Request) → (0, some q) ≡ line_result opened l → (line_number opened l ≡ 0) × (request l ≡ q)
  unfolding line_result
  asked_says q e = values_given (line_number opened l) (request l) q e

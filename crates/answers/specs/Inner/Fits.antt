-- Room for an answer.
use Rattle.std.specs.Prelude.{◌≡◌, List, ℕ, ◌+◌, ◌≤◌, length}
use Rattle.board.specs.Limits.{places_held}
use Rattle.lines.specs.Bytes.{Bytes}
use Rattle.answers.specs.Printed.{answer_room}

-- an answer with these jobs given up fits at `at` in the buffer
abbrev pub Fits : (tickets grades : List ℕ) (at : ℕ) (out : Bytes) → Type 0
Fits T G at out = (length T ≤ places_held) × (length G ≡ length T) × (at + answer_room ≤ length out)

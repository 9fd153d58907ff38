-- 'The program never meets 2, 8, 9 or 10; they guard the calls.'
use Rattle.std.specs.Prelude.{◌≡◌, true, not, ◌||◌, List, [], ◌∷◌, ◌++◌, ℕ, eqb}
use Rattle.lists.specs.Select.{every}
use Rattle.board.specs.declared.Tally.{Tally}
use Rattle.board.specs.Events.{event_numbers}
use Rattle.lines.specs.Bytes.{Bytes, lines}
use Rattle.lines.specs.Session.{Session, new_session, Answer, a_refusal, an_opening, an_admitting, a_closing, a_promise, a_withdrawal, Step, step, session_after}

-- the number of a refusal, 0 for any other answer
unfoldable pub number_of : Answer → ℕ
number_of (a_refusal n) = n
number_of (an_opening d) = 0
number_of (an_admitting t k) = 0
number_of (a_closing c) = 0
number_of (a_promise w) = 0
number_of (a_withdrawal t) = 0

-- the numbers that are met at a step: its answer's, and then the tally's for each event
unfoldable pub step_numbers : Tally → Step → List ℕ
step_numbers y a = number_of a.answer ∷ event_numbers y a.events

-- those of all lines, one after the other
unfoldable pub numbers_from : Session → List Bytes → List ℕ
numbers_from s [] = []
numbers_from s (l ∷ ls) = let a = step s.board l in step_numbers s.tally a ++ numbers_from (session_after s a) ls

-- none of them is 2, 8, 9 or 10
unfoldable pub NeverMet : Type 0
NeverMet = (input : Bytes) → every (λ n. not (eqb n 2 || eqb n 8 || eqb n 9 || eqb n 10)) (numbers_from new_session (lines input)) ≡ true

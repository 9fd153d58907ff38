-- An answer as the code holds it, and what is printed where there is room for it.
use Rattle.std.specs.Prelude.{Bool, ◌&&◌, List, [], ◌∷◌, ℕ, ◌+◌, ◌*◌, eqb, leb}
use Rattle.board.specs.Limits.{places_held}
use Rattle.lines.specs.Session.{Named, Closing, Answer, a_refusal, an_opening, an_admitting, a_closing, a_promise, a_withdrawal}
use Rattle.printing.specs.Lines.{room}
use Rattle.answers.specs.declared.Closing.{Closing as ClosingHeld}
use Rattle.answers.specs.declared.Answer.{Answer as AnswerHeld}
use Rattle.answers.specs.declared.Answer.TheVariants.{Refused, Opened, Admitted, Promised, Withdrawn, Closed}

-- the jobs with these tickets and grades
unfoldable pub jobs_of : (tickets grades : List ℕ) → List Named
jobs_of [] G = []
jobs_of (t ∷ T) [] = []
jobs_of (t ∷ T) (g ∷ G) = record { ticket = t; grade = g } ∷ jobs_of T G

abbrev pub closing_of : ClosingHeld → (tickets grades : List ℕ) → Closing
closing_of c T G =
    record { slot = c.slot.0; baked = record { ticket = c.ticket; grade = c.grade }; given_up = jobs_of T G; shortfall = c.shortfall }

-- the answer that the code holds, with the jobs given up in two lists
unfoldable pub answer_of : AnswerHeld → (tickets grades : List ℕ) → Answer
answer_of (Refused n) T G = a_refusal n
answer_of (Opened d) T G = an_opening d
answer_of (Admitted t k) T G = an_admitting t k.0
answer_of (Promised w) T G = a_promise w.0
answer_of (Withdrawn t) T G = a_withdrawal t
answer_of (Closed c) T G = a_closing (closing_of c T G)

-- `ANSWER_ROOM`: bytes that are enough for any answer, which are those of a B line, and of a G line for each job that a board holds
unfoldable pub answer_room : ℕ
unfolding places_held room
answer_room = (1 + places_held) * room

-- so many tickets are no more than a board holds, so many grades as many, and from `at` up to `end` there is room
unfoldable pub answer_fits : (tickets grades at end : ℕ) → Bool
answer_fits t g at end = leb t places_held && eqb g t && leb (at + answer_room) end

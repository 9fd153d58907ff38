-- What closing answers and leaves behind.
use Rattle.std.specs.Prelude.{Bool, not, ◌&&◌, ◌||◌, List, ◌∷◌, ℕ, zero, suc, ◌+◌, ltb, eqb, length}
use Rattle.std.proofs.Math.Option.{Option}
use Rattle.lists.specs.Select.{select}
use Rattle.lists.specs.Sorted.{sorted}
use Rattle.rule.specs.Job.{Job}
use Rattle.rule.specs.Shortfall.{shortfall}
use Rattle.rule.specs.Bake.{baked, expires, stays, ticket_of, grade_of}
use Rattle.board.specs.declared.Board.{Board}
use Rattle.board.specs.declared.Closed.{Closed}
use Rattle.board.specs.Rows.{◌if◌, first_given, close_rows, unless_refused}
use Rattle.board.specs.Held.{slot_of, held, thinned}
use Rattle.board.specs.Sound.{sound}

-- the number of a closing's refusal, 0 for none: rows 2, 3 and 8
unfoldable pub close_number : Board → (lent : ℕ) → ℕ
close_number b lent = first_given (2 if not (sound b) ∷ close_rows (slot_of b) lent)

-- 02, Four: 'by grade from best to worst, within a grade by rising ticket'. Grade 0 is the best.
unfoldable pub listed_before : Job → Job → Bool
listed_before r q = ltb r.grade q.grade || (eqb r.grade q.grade && ltb r.ticket q.ticket)

-- A slot closed with the ticket t baked, or none, which is ticket 0. 'gives up every other rack whose last slot is the present one': these jobs, in that
-- order.
unfoldable pub given_up_with : Board → (t : ℕ) → List Job
given_up_with b t = sorted listed_before (select (expires (slot_of b) t) (held b))

-- 'and moves to the next slot', with the jobs that stay
unfoldable pub moved_on_with : Board → (t : ℕ) → Board
moved_on_with b t = thinned b (slot_of b + 1) (stays (slot_of b) t)

-- 02, Five: 'The closing's answer carries the shortfall', that of all jobs 'on the board before the bake', whatever their grades
unfoldable pub shortfall_of : Board → ℕ
shortfall_of b = shortfall (slot_of b) (held b)

-- 'a refusal hands back the board [..] unchanged; whatever else the answer holds besides the number is then 0'
abbrev pub closed_refused : (number : ℕ) → Board → Closed
closed_refused n b = record { refusal = n; ticket = 0; grade = 0; listed = 0; shortfall = 0; board = b }

-- the answer with the job o baked, so many jobs listed and this shortfall, by the number of the refusal
unfoldable pub closed_with : (number : ℕ) → Board → Option Job → (listed short : ℕ) → Closed
closed_with zero b o n s =
    record { refusal = 0; ticket = ticket_of o; grade = grade_of o; listed = n; shortfall = s; board = moved_on_with b (ticket_of o) }
closed_with (suc k) b o n s = closed_refused (suc k) b

-- 'Closing a slot bakes that rack': the rule's
unfoldable pub bakes : Board → Option Job
bakes b = baked (slot_of b) b.depth (held b)

unfoldable pub given_up : Board → List Job
given_up b = given_up_with b (ticket_of (bakes b))

-- the answer by the number of the refusal: with the rule's rack, the jobs given up and the shortfall
unfoldable pub closed_if : (number : ℕ) → Board → Closed
closed_if n b = closed_with n b (bakes b) (length (given_up b)) (shortfall_of b)

unfoldable pub closed : Board → (lent : ℕ) → Closed
closed b lent = closed_if (close_number b lent) b

-- the jobs that it lists
unfoldable pub listing : Board → (lent : ℕ) → List Job
listing b lent = unless_refused (close_number b lent) (given_up b)

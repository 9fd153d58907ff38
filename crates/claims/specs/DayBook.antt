-- The day book, 'drawn from the arguments alone', with its jobs that are not yet baked there. A withdrawal begins it afresh.
use Rattle.std.specs.Prelude.{Bool, List, [], ◌∷◌, ◌++◌, ℕ, eqb}
use Rattle.lists.specs.Select.{select, how_many}
use Rattle.rule.specs.Job.{Job, job, in_date}
use Rattle.rule.specs.Bake.{baked, ticket_of}
use Rattle.books.specs.Book.{Beginning, enter, end_slot, Book, present, highest, jobs, extend}
use Rattle.books.specs.Rule.{without}
use Rattle.board.specs.Rows.{first_given, admit_rows, close_rows, withdraw_rows}
use Rattle.claims.specs.Calls.{Call, admit, close, withdraw}

-- the book since it began, and its jobs that are not yet baked there
pub record Day : Type 0 where
  pub book : Book
  pub left : List Job

-- a book that begins so, none of its jobs baked
unfoldable pub new_day : Beginning → Day
new_day b = record { book = record { beginning = b; changes = [] }; left = b.jobs }

-- the jobs 'in date and not yet baked there'
unfoldable pub waiting : Day → List Job
waiting D = select (in_date (present D.book)) D.left

-- 'row 7 the racks entered in that slot'; 02, Seven: 'row 7 there still counts only racks admitted in that slot itself'
unfoldable pub entered_now : Book → ℕ
entered_now B = how_many (λ (r : Job). eqb r.admitted (present B)) (jobs B)

-- 'An admitting that rows 3 to 7 let through', 'A closing that rows 3 and 8 let through', and a withdrawal that rows 3 and 17 let through. 'The rows read the
-- book's slot and highest ticket', 17 its jobs that are waiting.
unfoldable pub lets_through : ℕ → Day → Call → Bool
lets_through d D (admit t w g) = eqb (first_given (admit_rows (present D.book) (highest D.book) (entered_now D.book) d t w g)) 0
lets_through d D (close lent) = eqb (first_given (close_rows (present D.book) lent)) 0
lets_through d D (withdraw t) = eqb (first_given (withdraw_rows (present D.book) (waiting D) t)) 0

-- What a call that is let through makes of the day: it 'enters its rack', or 'ends the book's slot', where the rule bakes one of the jobs waiting. After a
-- withdrawal the book begins afresh, 'from that slot on, with the racks left on the board as first arrivals', which keep their admitted slots; 'Slot and
-- highest ticket go on as they were, in the day book too'.
unfoldable pub through : ℕ → Day → Call → Day
through d D (admit t w g) = record { book = extend D.book (enter t w g); left = D.left ++ (job t (present D.book) w g ∷ []) }
through d D (close lent) = record { book = extend D.book end_slot; left = without (ticket_of (baked (present D.book) d (waiting D))) D.left }
through d D (withdraw t) = new_day (record { slot = present D.book; highest = highest D.book; jobs = without t (waiting D) })

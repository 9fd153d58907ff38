-- A list of calls in stretches: a withdrawal that is let through ends one and begins the next. Each has its own day book, and our board's plan of it, read off
-- the answers. 02, Seven: 'The optimum is counted afresh after a withdrawal'. A list without withdrawals is one stretch.
use Rattle.std.specs.Prelude.{◌≡◌, cond, List, [], ◌∷◌, ◌++◌, map, ℕ}
use Rattle.books.specs.Book.{Book}
use Rattle.books.specs.Schedule.{Schedule, from_slot}
use Rattle.board.specs.declared.Board.{Board}
use Rattle.board.specs.Held.{slot_of}
use Rattle.claims.specs.Calls.{Call, admit, close, withdraw, board_after, ticket_named}
use Rattle.claims.specs.DayBook.{Day, new_day, lets_through, through}

pub record Stretch : Type 0 where
  -- our board at its start: the list's first, or the one that the withdrawal handed back
  pub first : Board
  -- the day book from there on
  pub day : Day
  -- the tickets named in the answers of the closings that ended its slots, in order
  pub named : List ℕ

abbrev pub book_of : Stretch → Book
book_of x = x.day.book

-- 'Our board's plan gives slot j the rack named in the answer of the closing that ended slot j, and none where that was 'empty'.'
unfoldable pub our_plan : Stretch → Schedule
our_plan x = from_slot (book_of x).beginning.slot x.named

-- the stretch with one call more, which is let through and made of the board b; after a withdrawal the next one, which begins there
unfoldable pub go_on : ℕ → Stretch → Board → Call → Stretch
go_on d x b (admit t w g) = record { first = x.first; day = through d x.day (admit t w g); named = x.named }
go_on d x b (close lent) = record { first = x.first; day = through d x.day (close lent); named = x.named ++ (ticket_named b (close lent) ∷ []) }
go_on d x b (withdraw t) = record { first = board_after b (withdraw t); day = through d x.day (withdraw t); named = [] }

-- 'A refused call changes nothing in the book.'
unfoldable pub stretch_after : ℕ → Stretch → Board → Call → Stretch
stretch_after d x b c = cond (lets_through d x.day c) (go_on d x b c) x

-- the stretch that a call ends, if it ends one
unfoldable pub ended_by : ℕ → Stretch → Call → List Stretch
ended_by d x (admit t w g) = []
ended_by d x (close lent) = []
ended_by d x (withdraw t) = cond (lets_through d x.day (withdraw t)) (x ∷ []) []

-- the stretches from x on, made of the board b. 'Each call gets the board the call before it handed back, refused or not'.
unfoldable pub stretches : ℕ → Stretch → Board → List Call → List Stretch
stretches d x b [] = x ∷ []
stretches d x b (c ∷ cs) = ended_by d x c ++ stretches d (stretch_after d x b c) (board_after b c) cs

-- 'The day book starts with that board's slot and highest ticket, and no racks.'
unfoldable pub start : Board → Stretch
start b = record { first = b; day = new_day (record { slot = slot_of b; highest = b.highest; jobs = [] }); named = [] }

-- the stretches of a list of calls that starts from the board b
unfoldable pub stretches_of : Board → List Call → List Stretch
stretches_of b cs = stretches b.depth (start b) b cs

-- 'From there on it is drawn from the arguments alone': on another board of that depth, slot and highest ticket, whatever its answers are, the same calls
-- draw the same books.
unfoldable pub DrawnAlone : Type 0
DrawnAlone =
    (b c : Board) → b.depth ≡ c.depth → slot_of b ≡ slot_of c → b.highest ≡ c.highest → (cs : List Call)
    → map book_of (stretches_of b cs) ≡ map book_of (stretches_of c cs)

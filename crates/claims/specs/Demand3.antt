-- Demand 3, as one closed statement: 'a single claim about the list as a whole, not one for each call'.
use Rattle.std.specs.Prelude.{◌≡◌, Bool, true, ◌&&◌, ℕ, ◌≤◌, ◌<◌, length}
use mathlib.Core.List.{List, map, Memᴰ}
use Rattle.lists.specs.Select.{every}
use Rattle.lists.specs.Rise.{never_falling}
use Rattle.rule.specs.Job.{Job, in_date}
use Rattle.books.specs.Book.{Beginning, slots_closed}
use Rattle.books.specs.Schedule.{Schedule, IsSchedule, total}
use Rattle.books.specs.Rule.{Rule, made_by}
use Rattle.books.specs.Rival.{Setting, Level, count_of}
use Rattle.board.specs.declared.Board.{Board}
use Rattle.board.specs.Sound.{sound}
use Rattle.board.specs.Held.{slot_of, held}
use Rattle.claims.specs.Calls.{Call}
use Rattle.claims.specs.Stretches.{Stretch, book_of, our_plan, stretches_of}

-- What rivals are tried on at a depth: every grade below 2^D, and some set of beginnings. 01's 'every such book' may be read as every beginning or as the
-- list's own, and 02's 'may begin with any such racks' as any jobs or as `such_racks`: the claim below is for any set that has the stretch's own beginning.
unfoldable pub setting : (depth : ℕ) → (Beginning → Bool) → Setting
setting d begins = record { depth = d; allowed = λ g. true; begins = begins }

-- 02, Seven: 'any such racks', taken narrowly: jobs that a board can be left with, its limits lifted; in date, and admitted slots never fall along them
unfoldable pub such_racks : Beginning → Bool
such_racks b = never_falling (map (λ (r : Job). r.admitted) b.jobs) && every (in_date b.slot) b.jobs

-- a book's beginning with what is on a board
unfoldable pub begun_from : Board → Beginning
begun_from b = record { slot = slot_of b; highest = b.highest; jobs = held b }

-- Of a stretch. Its slots are counted from its own first: 'The optimum is counted afresh after a withdrawal: from that slot on'.
pub record Unbeaten (d : ℕ) (x : Stretch) : Type 0 where
  -- 'with the racks left on the board as first arrivals': the book drawn from the arguments begins with what is on our board there, which are such racks
  pub begins_as_board : (book_of x).beginning ≡ begun_from x.first
  pub begins_with_such : such_racks (book_of x).beginning ≡ true
  -- our answers are a plan of the day book
  pub plan : IsSchedule (book_of x) (our_plan x)
  -- 'no plan bakes more in the first k slots'
  pub totals : (p : Schedule) → IsSchedule (book_of x) p → (k : ℕ) → k ≤ slots_closed (book_of x)
      → total (book_of x) p k ≤ total (book_of x) (our_plan x) k
  -- 'on the list's day book, for every start of j bits and every k up to the slots closed, our board's count is at least that of every rival of level j'
  pub by_grade : (begins : Beginning → Bool) → begins (book_of x).beginning ≡ true → (j : ℕ) → j < d
      → (r : Rule) → Level (setting d begins) j r
      → (u : List Bool) → length u ≡ j → (k : ℕ) → k ≤ slots_closed (book_of x)
      → count_of d u (book_of x) (made_by r d (book_of x)) k ≤ count_of d u (book_of x) (our_plan x) k

-- 'every list of admittings and closings on one board [..] starts from any sound board with no racks'; every stretch of it
unfoldable pub Demand3 : Type 0
Demand3 = (b : Board) → sound b ≡ true → b.count ≡ 0 → (cs : List Call) → (x : Stretch) → Memᴰ x (stretches_of b cs) → Unbeaten b.depth x

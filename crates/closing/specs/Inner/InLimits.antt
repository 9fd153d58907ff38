-- What the inner call answers: it looks at the limits of a board and not along it. It is total, and on a sound board it is 01's call
-- (proofs/OnSound). Only promises of code cite these definitions.
use Rattle.std.specs.Prelude.{◌≡◌, ℕ, eqb}
use Rattle.lists.specs.Select.{select, how_many}
use Rattle.rule.specs.Job.{Job}
use Rattle.rule.specs.Shortfall.{shortfall}
use Rattle.rule.specs.Bake.{expires, ticket_of, grade_of}
use Rattle.board.specs.declared.Board.{Board}
use Rattle.board.specs.declared.Closed.{Closed}
use Rattle.board.specs.Rows.{first_given, close_rows, unless_refused}
use Rattle.board.specs.Held.{slot_of, held}
use Rattle.board.specs.Tally.{tally_grades}
use Rattle.board.specs.Close.{closed_with}
use Rattle.board.specs.Lent.{Lent, entry_count}
use Rattle.counts.specs.Seen.{seen}
use Rattle.counts.specs.Counts.{cell_of}
use Rattle.search.specs.Inner.Seen.{bakes_seen}
use Rattle.search.specs.Inner.Found.{last_of}
use Rattle.limits.specs.Inner.Limits.{◌or_else◌, limits_number}
use Rattle.rooms.specs.Inner.Rooms.{taking, bound, lent_laid}

-- 2 for a board that is not in its limits, then rows 3 and 8
unfoldable pub close_number_in_limits : Board → (lent : ℕ) → ℕ
close_number_in_limits b lent = limits_number b or_else first_given (close_rows (slot_of b) lent)

-- the bounds of the rooms in the list: for the jobs seen that are in their last slot, which the cells 0 to 7 count, without the one that is baked
unfoldable pub bounds_seen : Board → ℕ → ℕ
bounds_seen b =
    let o = bakes_seen b in
    bound (taking (λ g. how_many (λ (r : Job). eqb (cell_of (slot_of b) r) g) (seen b)) (grade_of o) (eqb (last_of o) (slot_of b)))

-- a closing with the job that the search sees
unfoldable pub closed_in_limits : Board → (lent : ℕ) → Closed
closed_in_limits b lent = closed_with (close_number_in_limits b lent) b (bakes_seen b) (bounds_seen b tally_grades) (shortfall (slot_of b) (seen b))

-- what such a closing promises, with its list as it was before and is after
pub record ClosedInLimits (b : Board) (before after : Lent) (r : Closed) : Type 0 where
  pub answer : r ≡ closed_in_limits b (entry_count before)
  pub list : after
      ≡ lent_laid (bounds_seen b)
      (unless_refused (close_number_in_limits b (entry_count before)) (select (expires (slot_of b) (ticket_of (bakes_seen b))) (held b))) before

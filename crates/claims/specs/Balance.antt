-- The balance of the tally over a run, and that no event of it is refused.
use Rattle.std.specs.Prelude.{◌≡◌, true, List, [], ◌∷◌, ◌++◌, ℕ, ◌+◌, ◌<◌, eqb}
use Rattle.lists.specs.Select.{how_many}
use Rattle.rule.specs.Job.{Job}
use Rattle.board.specs.declared.Board.{Board}
use Rattle.board.specs.declared.Tally.{Tally}
use Rattle.board.specs.Held.{held}
use Rattle.board.specs.Sound.{sound}
use Rattle.board.specs.Tally.{tally_grades, zero_tally, count_at}
use Rattle.board.specs.Events.{admitted_kind, baked_kind, given_up_kind, withdrawn_kind, Event, admit_events, close_events, withdraw_events, fed, all_taken}
use Rattle.claims.specs.Calls.{Call, admit, close, withdraw, board_after}

-- the events of a call
unfoldable pub events_of : Board → Call → List Event
events_of b (admit t w g) = admit_events b t w g
events_of b (close lent) = close_events b lent
events_of b (withdraw t) = withdraw_events b t

-- the board after a list of calls, and all their events
unfoldable pub board_after_all : Board → List Call → Board
board_after_all b [] = b
board_after_all b (c ∷ cs) = board_after_all (board_after b c) cs

unfoldable pub all_events : Board → List Call → List Event
all_events b [] = []
all_events b (c ∷ cs) = events_of b c ++ all_events (board_after b c) cs

-- 'a zero tally fed every event of an empty board's run'
unfoldable pub tally_after_all : Board → List Call → Tally
tally_after_all b cs = fed zero_tally (all_events b cs)

-- the jobs of a grade on a board
unfoldable pub on_board : ℕ → Board → ℕ
on_board g b = how_many (λ (r : Job). eqb r.grade g) (held b)

-- 'admitted = baked + given up + racks on the board, for each grade', and no event is refused. 02, Seven: withdrawn is 'on its right-hand side'.
pub record Balanced (b : Board) (cs : List Call) : Type 0 where
  pub taken : all_taken zero_tally (all_events b cs) ≡ true
  pub balance : (g : ℕ) → g < tally_grades
      → count_at (tally_after_all b cs) admitted_kind g
      ≡ count_at (tally_after_all b cs) baked_kind g + count_at (tally_after_all b cs) given_up_kind g + count_at (tally_after_all b cs) withdrawn_kind g
      + on_board g (board_after_all b cs)

unfoldable pub Balance : Type 0
Balance = (b : Board) → sound b ≡ true → b.count ≡ 0 → (cs : List Call) → Balanced b cs

-- All that is proved over the definitions, in one place: the function `theorems` of src/ ensures it.
use Rattle.std.specs.Prelude.{◌≡◌, true, ℕ, ◌<◌}
use Rattle.rule.specs.Worked.{Worked}
use Rattle.books.specs.Rule.{Rule}
use Rattle.books.specs.Rival.{Setting, Rival, Level}
use Rattle.books.specs.NoRegretRule.{Busy, Characterised}
use Rattle.books.specs.LeastLastSlot.{least_last_rule, paper_setting}
use Rattle.feasibility.specs.PlanFrom.{BakedSomewhere}
use Rattle.feasibility.specs.Fewest.{ShortfallFewest}
use Rattle.feasibility.specs.AllBaked.{ZeroSuffices}
use Rattle.feasibility.specs.Promise.{PromisedLeast, LongerToo}
use Rattle.board.specs.declared.Board.{Board}
use Rattle.board.specs.Limits.{most_in_slot, places_held}
use Rattle.board.specs.Held.{in_slot}
use Rattle.board.specs.Sound.{sound}
use Rattle.board.specs.Open.{opened}
use Rattle.board.specs.Withdraw.{withdrawn}
use Rattle.matching.specs.Hindsight.{BestInHindsight}
use Rattle.claims.specs.Calls.{Call, board_after}
use Rattle.claims.specs.Stretches.{DrawnAlone}
use Rattle.claims.specs.Demand3.{Demand3}
use Rattle.claims.specs.Balance.{Balance}
use Rattle.claims.specs.GivenUpInOrder.{GivenUpInOrder}
use Rattle.claims.specs.Shortfall.{BoardShortfall}
use Rattle.claims.specs.Promise.{BoardPromise, NeverSoldOut}
use Rattle.lines.specs.Machine.{ByteByByte}
use Rattle.lines.specs.NeverMet.{NeverMet}
use Rattle.lines.specs.BlankGrade.{BlankGrade}
use Rattle.lines.specs.SheetReadBack.{SheetReadBack}

pub record Theorems : Type 0 where
  -- for every list of calls, on each of its stretches: no plan bakes more, and no rival does better by grade
  pub demand3 : Demand3
  -- the day books of these stretches are drawn from the arguments alone
  pub drawn_alone : DrawnAlone
  -- over every run from an empty board: admitted = baked + given up + withdrawn + on the board, for each grade, and no event is refused
  pub balance : Balance
  -- the jobs given up are listed by grade from best to worst, within a grade by rising ticket, each once and no other
  pub given_up_in_order : GivenUpInOrder
  -- the shortfall is the least number of jobs that any plan gives up if nothing more arrives: in any slot, for any jobs; and of every sound board, whose
  -- closing carries it
  pub shortfall_fewest : ShortfallFewest
  pub board_shortfall : BoardShortfall
  -- a plan gives up a job where it gives its ticket to no slot
  pub baked_somewhere : BakedSomewhere
  -- all jobs can be baked exactly when the smallest excess is zero or more
  pub zero_suffices : ZeroSuffices
  -- what is promised is the least wait of one job more such that some plan bakes it and all jobs in hand, 0 exactly where there is none: in any slot, for any
  -- jobs; and of every sound board, whose answer carries it
  pub promised_least : PromisedLeast
  pub board_promise : BoardPromise
  -- no answer 0 while some plan bakes one job more and all on the board
  pub never_sold_out : NeverSoldOut
  -- what can be promised with one wait can be with a longer one
  pub longer_too : LongerToo
  -- a rule has level j exactly when it keeps to the no-regret sets of order j; ours has every level
  pub characterised : (S : Setting) → Characterised S
  -- a rule that idles with a job in date is no rival
  pub never_idle : (S : Setting) (q : Rule) → Rival S q → Busy S q
  -- always the least last slot has level 0 and, at depth 1, not level 1
  pub least_last_level0 : (S : Setting) → Level S 0 least_last_rule
  pub least_last_not_level1 : ¬ Level (paper_setting 1) 1 least_last_rule
  -- boards 1 to 8: the definitions say what 01 worked out by hand
  pub worked : Worked
  -- opening returns a sound board with no jobs, for every depth that it lets through
  pub opening : (d : ℕ) → (opened d).refusal ≡ 0 → (sound (opened d).board ≡ true) × ((opened d).board.count ≡ 0)
  -- every call keeps a sound board sound
  pub sound_kept : (b : Board) (c : Call) → sound b ≡ true → sound (board_after b c) ≡ true
  -- a withdrawal takes no job of the present slot: row 7 counts what it did
  pub intake_kept : (b : Board) (t : ℕ) → in_slot (withdrawn b t).board ≡ in_slot b
  -- a sound board with fewer than eight jobs of its slot has a free place
  pub free_place : (b : Board) → sound b ≡ true → in_slot b < most_in_slot → b.count < places_held
  -- each program prints its whole output byte by byte, as it reads
  pub byte_by_byte : ByteByByte
  -- the program never meets 2, 8, 9 or 10
  pub never_met : NeverMet
  -- a blank grade is the worst of the open depth, and is never refused with 6
  pub blank_grade : BlankGrade
  -- the sheet, read back column by column, has the closings of the run, and each page its own totals
  pub sheet_read_back : SheetReadBack
  -- 02, Ten, apart from the board's promise: the best day in hindsight bakes, for every m at once, as many of the first m jobs as any plan can, and is the
  -- only choice of jobs that does
  pub best_in_hindsight : BestInHindsight

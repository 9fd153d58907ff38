-- The fewest jobs that any plan gives up. 02, Five.
use Rattle.std.specs.Prelude.{◌≡◌, true, List, ℕ, ◌≤◌}
use Rattle.rule.specs.Job.{Job}
use Rattle.rule.specs.Shortfall.{shortfall}
use Rattle.books.specs.Schedule.{Schedule}
use Rattle.feasibility.specs.PlanFrom.{waiting, PlanFrom, given_up_by}

-- n is 'the least number of the racks on the board before the bake that any plan from that bake on gives up if nothing more arrives'
pub record Fewest (now : ℕ) (A : List Job) (n : ℕ) : Type 0 where
  -- no plan gives up fewer
  pub no_fewer : (p : Schedule) → PlanFrom now A p → n ≤ given_up_by p now A
  -- some plan gives up exactly so many
  pub so_many : (p : Schedule) × PlanFrom now A p × (given_up_by p now A ≡ n)

-- 'It must equal' this number: in any slot, for any jobs. Slots are plain numbers here, so that they can be halves of slots too.
unfoldable pub ShortfallFewest : Type 0
ShortfallFewest = (now : ℕ) (A : List Job) → waiting now A ≡ true → Fewest now A (shortfall now A)

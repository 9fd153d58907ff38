-- The rule that always takes the least last slot, and the setting of 01.
use Rattle.std.specs.Prelude.{true, ℕ, eqb, length}
use Rattle.lists.specs.Select.{select}
use Rattle.rule.specs.Job.{in_date}
use Rattle.rule.specs.Bake.{soonest, ticket_of}
use Rattle.books.specs.Rule.{Rule}
use Rattle.books.specs.Rival.{Setting}
use Rattle.books.specs.NoRegretRule.{Choice, by_choice}

-- 'Always the least last slot: total right, grades wrong on board 4.'
unfoldable pub least_last_choice : Choice
least_last_choice d b past s left = ticket_of (soonest (select (in_date s) left))

unfoldable pub least_last_rule : Rule
least_last_rule = by_choice least_last_choice

-- every grade below 2^D, every beginning with no jobs
unfoldable pub paper_setting : ℕ → Setting
paper_setting d = record { depth = d; allowed = λ g. true; begins = λ b. eqb (length b.jobs) 0 }

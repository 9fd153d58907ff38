-- The worked boards: the definitions compute what the table says.
use mathlib.Core.Path.{refl}
use Rattle.lists.specs.Select.{select, every, has, how_many, one_if}
use Rattle.lists.specs.Least.{least, least_from, one_to, least_passing}
use Rattle.rule.specs.Job.{job, laxity, in_date}
use Rattle.rule.specs.Grade.{bits, starts, graded, starting}
use Rattle.rule.specs.Tight.{laxities, excess, smallest, tight_laxity, tight}
use Rattle.rule.specs.Shortfall.{smallest_excess, below_zero, shortfall}
use Rattle.rule.specs.Promise.{with_further, fits, least_promised}
use Rattle.rule.specs.Descent.{next_bit, descend, no_regret_after, no_regret}
use Rattle.rule.specs.Bake.{sooner, soonest_of, soonest, baked, expires, stays, ticket_of}
use Rattle.rule.specs.Worked.{◌gives_up◌, ◌of_grade◌, table, numbered, tickets, closings, computed, Worked}

pub worked : Worked
unfolding Worked computed closings tickets numbered table ◌of_grade◌ ◌gives_up◌ ticket_of select every has how_many one_if least least_from job laxity in_date bits starts graded starting laxities excess smallest tight_laxity tight smallest_excess below_zero shortfall one_to least_passing with_further fits least_promised next_bit descend no_regret_after no_regret sooner soonest_of soonest baked expires stays
worked = refl

-- The counts are those of the jobs seen.
use Rattle.search.proofs.Seeing.{counts_seen_deepest}
use Rattle.search.proofs.promise.Goals as goal

pub returns-clause-least : goal.returns-clause-least
returns-clause-least c T A = c.after_full.ensures.least _ _ (counts_seen_deepest _ (c.counts_of-counts.ensures T A))

-- The job, the shortfall and the counts are those of the jobs seen.
use Rattle.std.proofs.Common.{◌∙◌}
use Rattle.counts.proofs.Along.{with_others}
use Rattle.search.proofs.BakeFound.{shortfall_seen}
use Rattle.search.proofs.bake.Goals as goal

pub returns : goal.returns
returns c A =
    let b = c.args.b.now in
    let counts = c.counts_of-counts.ensures b.tickets A in
    record {
      job = c.choose-job.ensures A;
      shortfall = c.shortfall_of-shortfall.ensures ∙ shortfall_seen (with_others b b.tickets A) counts _ c.tight-all.ensures;
      counts = counts;
    }

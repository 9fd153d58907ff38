-- Best is the best of the laxities passed.
use Rattle.std.proofs.Common.{◌≡◌, refl, subst, arith}
use Rattle.board.specs.Limits.{longest_laxity, deepest}
use Rattle.search.specs.Inner.Counts.{sum, column}
use Rattle.search.proofs.Sums.{sum_more}
use Rattle.search.proofs.BestLaxity.{BestTo, best_none, best_more}
use Rattle.search.proofs.FromCounts.{tight_of}
use Rattle.search.proofs.tight.tight.Goals as goal

pub loop-k-init : goal.loop-k-init
unfolding deepest sum
loop-k-init c = record { few = omega arith; counted = refl; tightest = best_none _ }

pub loop-k-preserved : goal.loop-k-preserved
unfolding deepest
loop-k-preserved c =
    let f = column c.args.counts.now 0 deepest in
    let h = c.column_of-here.ensures in
    let i = c.loop-k.invariant in
    record {
      few = omega (arith, h.1, i.few);
      counted = omega (arith, h.0, i.counted, sum_more f c.loop-k.k);
      tightest = rw (c.better-best.ensures, h.0, i.counted) (best_more f c.loop-k.k i.tightest);
    }

pub returns : goal.returns
unfolding longest_laxity
returns c =
    let t = c.args.counts.now in
    let l = c.loop-k in
    let e : l.k ≡ longest_laxity = omega arith in
    tight_of t 0 deepest l.best (subst (λ n. BestTo (column t 0 deepest) n l.best) e l.invariant.tightest)

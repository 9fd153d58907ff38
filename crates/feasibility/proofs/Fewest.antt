-- The shortfall is the least number of jobs that any plan gives up.
use mathlib.Core.List.{List}
use Prim.Native.Nat.{ℕ}
use native.Mathlib.Omega.{arith}
use lib.ListN.{length}
use Rattle.rule.specs.Job.{Job}
use Rattle.rule.specs.Tight.{tight_laxity}
use Rattle.rule.specs.Shortfall.{shortfall}
use Rattle.rule.proofs.Tight.Shortfall.{shortfall_is, shortfall_covers}
use Rattle.feasibility.specs.Fewest.{Fewest, ShortfallFewest}
use Rattle.feasibility.proofs.Plans.{Waiting, waiting_true}
use Rattle.feasibility.proofs.NoFewer.{no_fewer_at}
use Rattle.feasibility.proofs.Soonest.{plan_losing}

pub fewest : (now : ℕ) (A : List Job) → Waiting now A → Fewest now A (shortfall now A)
fewest now A W =
    let N = plan_losing (length A) now (shortfall now A) A (omega arith) W (shortfall_covers now A) in
    record {
      no_fewer = λ p P. omega (arith, no_fewer_at p now A W.rising (tight_laxity now A), shortfall_is now A);
      so_many =
          (N.p, N.plan, omega (arith, N.few, no_fewer_at N.p now A W.rising (tight_laxity now A), shortfall_is now A));
    }

pub shortfall_fewest : ShortfallFewest
unfolding ShortfallFewest
shortfall_fewest now A h = fewest now A (waiting_true now A h)

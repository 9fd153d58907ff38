-- Some plan bakes all jobs exactly when, at every laxity l, no more than l jobs have laxity l or less; which is where the smallest excess is zero or more.
use mathlib.Core.Path.{◌≡◌, ap}
use mathlib.Core.Bool.{false, not}
use mathlib.Core.Logic.{⊎_elim}
use mathlib.Core.List.{List}
use Prim.Native.Nat.{ℕ, ◌≤◌}
use native.Mathlib.Omega.{arith}
use lib.ListN.{length}
use Rattle.lists.proofs.Tests.{test}
use Rattle.lists.proofs.Counting.{count_none, count_mem}
use Rattle.rule.specs.Job.{Job}
use Rattle.rule.specs.Tight.{tight_laxity}
use Rattle.rule.proofs.Tight.Excess.{up_to}
use Rattle.rule.proofs.Tight.Shortfall.{shortfall_is, shortfall_covers, none_short, zero_or_more}
use Rattle.feasibility.specs.PlanFrom.{bakes_job, given_up_by}
use Rattle.feasibility.specs.AllBaked.{AllBaked, ZeroSuffices}
use Rattle.feasibility.proofs.Plans.{Waiting, waiting_true}
use Rattle.feasibility.proofs.Slots.{bakes_job_is}
use Rattle.feasibility.proofs.NoFewer.{no_fewer_at}
use Rattle.feasibility.proofs.Soonest.{plan_losing}

pub all_baked_counts : {now : ℕ} {A : List Job} → Waiting now A → AllBaked now A → (l : ℕ) → up_to now A l ≤ l
unfolding given_up_by
all_baked_counts {now} {A} W B l =
    omega (
      arith,
      no_fewer_at B.plan now A W.rising l,
      count_none (λ (r : Job). not (bakes_job B.plan now r)) A
          (λ r m. let s = B.each r m in ap not ((bakes_job_is W B.is_plan r m).1 s.0 s.1)),
    )

pub counts_all_baked : {now : ℕ} {A : List Job} → Waiting now A → ((l : ℕ) → up_to now A l ≤ l) → AllBaked now A
unfolding given_up_by
counts_all_baked {now} {A} W h =
    let N = plan_losing (length A) now 0 A (omega arith) W (λ l. omega (arith, h l)) in
    record {
      plan = N.p;
      is_plan = N.plan;
      each =
          λ r m.
          (bakes_job_is W N.plan r m).0
          (⊎_elim (λ e. e)
          (λ (e : bakes_job N.p now r ≡ false). absurd (omega (arith, N.few, count_mem (λ (r : Job). not (bakes_job N.p now r)) m (ap not e))))
          (test (bakes_job N.p now r)));
    }

pub zero_suffices : ZeroSuffices
unfolding ZeroSuffices
zero_suffices now A h x e =
    let W = waiting_true now A h in (
      λ z. counts_all_baked W (λ l. omega (arith, shortfall_covers now A l, none_short now A x e z)),
      λ B. zero_or_more now A x e (omega (arith, shortfall_is now A, all_baked_counts W B (tight_laxity now A))),
    )

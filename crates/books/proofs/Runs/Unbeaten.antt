-- A rule that keeps to the tight sets is a rival. One that keeps to the no-regret sets of order j + 1 has on every book, for every start of j bits,
-- at least the count of any that keeps to those of order j.
use mathlib.Core.Bool.{true, false}
use mathlib.Core.List.{[], ◌∷◌, ◌++◌}
use Prim.Native.Nat.{ℕ, suc, ◌<◌}
use native.Mathlib.Omega.{arith}
use Rattle.heights.proofs.Schedule.NoMore.{no_schedule_more}
use Rattle.heights.proofs.Trees.Better.{better}
use Rattle.heights.proofs.Items.Tree.{tree}
use Rattle.rule.specs.Grade.{graded}
use Rattle.rule.proofs.NoRegret.Items.{items}
use Rattle.books.specs.Book.{Book}
use Rattle.books.specs.Schedule.{total}
use Rattle.books.specs.Rule.{Rule, made_by}
use Rattle.books.specs.Rival.{Setting, Tried, Rival, count_of, NoLarger}
use Rattle.books.specs.NoRegretRule.{keeps_at, Keeps}
use Rattle.books.proofs.Walks.Groups.{first}
use Rattle.books.proofs.Walks.GoesOn.{goes_start}
use Rattle.books.proofs.Walks.Closings.{each_weaker}
use Rattle.books.proofs.Schedules.Counts.{tally, picks_on, baked_tally}
use Rattle.books.proofs.Schedules.Realised.{following, realised}
use Rattle.books.proofs.Runs.Kept.{kept, kept_at, kept_wider}
use Rattle.books.proofs.Runs.JobRun.{job_run, any_job_run}
use Rattle.books.proofs.Runs.AnyRun.{sum_ones, any_run}
use Rattle.books.proofs.Runs.KeptRuns.{tight_run, tree_run}

-- no schedule bakes more
pub keeps_rival : (S : Setting) (q : Rule) → Keeps S 0 q → Rival S q
unfolding Rival Keeps total
keeps_rival S q a B T k h p P =
    let d = S.depth in
    let b = B.beginning in
    omega (
      arith,
      no_schedule_more
          (tight_run d (job_run (keeps_at 0 d) q d b (goes_start T) (a B T)))
          (any_run d (any_job_run (following p) d b (goes_start T)))
          k,
      sum_ones (picks_on q d B) k,
      sum_ones (picks_on (following p) d B) k,
      baked_tally S B T q d (λ r. true) k,
      realised S B T p P d (λ r. true) k (omega arith),
    )

-- no count is larger
pub keeps_better : (S : Setting) (j : ℕ) → j < S.depth → (q r : Rule) → Keeps S (suc j) q → Keeps S j r → (B : Book) → Tried S B
    → NoLarger S j B (made_by r S.depth B) (made_by q S.depth B)
unfolding NoLarger Keeps count_of
keeps_better S j i q r a c B T u e k h =
    let d = S.depth in
    let b = B.beginning in
    let v = u ++ (false ∷ []) in
    omega (
      arith,
      better j d (tree d (items d (b.jobs ++ first b.slot B.changes))) (λ w. tally (graded d w) (picks_on q d B) k) (λ w. tally (graded d w) (picks_on r d B) k) i
          (tree_run i (job_run (keeps_at (suc j) d) q d b (goes_start T) (a B T)) k)
          (tree_run (omega arith) (job_run (keeps_at j d) r d b (goes_start T) (c B T)) k)
          u e,
      baked_tally S B T q d (graded d v) k,
      baked_tally S B T r d (graded d v) k,
    )

-- one order less
pub keeps_wider : (S : Setting) (j : ℕ) (q : Rule) → j < S.depth → Keeps S (suc j) q → Keeps S j q
unfolding Keeps
keeps_wider S j q i a B T =
    let d = S.depth in
    let b = B.beginning in
    each_weaker (goes_start T) q d b (keeps_at (suc j) d) (keeps_at j d)
    (λ s h left x l e. kept_at j d s left x (kept_wider j d s left x i (kept (suc j) d s h left x l e))) (a B T)

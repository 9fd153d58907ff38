-- The runs of a rule that keeps to the no-regret sets of order j: a tight run of parts for order 0, and a run of order j of trees.
use mathlib.Core.Path.{◌≡◌, refl, sym, ap, ◌∙◌, subst}
use mathlib.Core.Bool.{Bool, false}
use mathlib.Core.Option.{Option, some}
use mathlib.Core.List.{List, ◌++◌, Memᴰ}
use Prim.Native.Nat.{ℕ, zero, suc, ◌+◌, ◌≤◌}
use native.Mathlib.Omega.{arith}
use lib.ListN.{take}
use Rattle.lists.specs.Select.{one_if, has, select}
use Rattle.lists.proofs.Counting.{count_has}
use Rattle.heights.proofs.Heights.TightSlot.{TightSlot, tight_same}
use Rattle.heights.proofs.Schedule.Run.{TightStep, TightRun, tight_step_same}
use Rattle.heights.proofs.Trees.Tree.{join_tree, SameTree, same_tree_refl, same_tree_sym}
use Rattle.heights.proofs.Trees.NoRegret.{NoRegret}
use Rattle.heights.proofs.Trees.Run as R
use Rattle.heights.proofs.Trees.Run.{Count, Run, Step, run_same}
use Rattle.heights.proofs.Items.Item.{Item, count, part, parts}
use Rattle.heights.proofs.Items.Tree.{tree, total_tree, tree_append, slots}
use Rattle.rule.specs.Job.{Job, in_date}
use Rattle.rule.specs.Grade.{bits, graded}
use Rattle.rule.specs.Descent.{no_regret_after}
use Rattle.rule.proofs.Tight.Counts.{in_date_all}
use Rattle.rule.proofs.Tight.Slot.{tight_last, tight_mem, in_date_tight}
use Rattle.rule.proofs.NoRegret.Items.{items, items_count}
use Rattle.rule.proofs.NoRegret.Order.{no_regret_leaves}
use Rattle.rule.proofs.NoRegret.Start.{starts_one_if}
use Rattle.books.specs.Rule.{valid, without}
use Rattle.books.specs.NoRegretRule.{keeps_at}
use Rattle.books.proofs.Walks.Without.{without_less}
use Rattle.books.proofs.Walks.Left.{Left}
use Rattle.books.proofs.Walks.Picks.{found}
use Rattle.books.proofs.Schedules.Counts.{passes, one_none, any, one_any, tally}
use Rattle.books.proofs.Runs.Kept.{Kept, idle, bake, kept, after_none, after_left}
use Rattle.books.proofs.Runs.JobRun.{JobRun, done, step}
use Rattle.books.proofs.Runs.AnyRun.{items_append, groups, ones, nothing_baked, found_valid, leaves_part, stays_part, part_run}

-- where no job is in date, the counts are 0
none_in_date : (d s : ℕ) (left : List Job) → has (in_date s) left ≡ false → count (items d left) s ≡ 0
unfolding in_date
none_in_date d s left e = omega (arith, items_count d left s, count_has (in_date s) left e)

-- the tight slot of the jobs left
pub tight_of : (d s : ℕ) (left : List Job) {p : Job} → Memᴰ p (select (in_date s) left) → TightSlot s (part (items d left)) (tight_last s (select (in_date s) left))
tight_of d s left m = tight_same (record { is = λ n i. items_count d left n }) (in_date_tight s left m)

tight_step : (d s x : ℕ) (left : List Job) {h : ℕ} → Left h left → Kept 0 d s left x
    → TightStep s (part (items d left)) (part (items d (without (valid s left x) left))) (one_if (passes any (found s left x)))
tight_step d s x left l (idle n e) =
    subst (TightStep s (part (items d left)) (part (items d (without (valid s left x) left)))) (sym (one_none any e))
    (TightStep.rest (none_in_date d s left n) (stays_part d x l e))
tight_step d s x left l (bake p m e) =
    let A = select (in_date s) left in
    let t = tight_mem s A (in_date_all s left) (subst (Memᴰ p) (after_none s d A) m) in
    subst (TightStep s (part (items d left)) (part (items d (without (valid s left x) left)))) (sym (one_any e))
    (TightStep.take (tight_last s A) p.last (tight_of d s left t.0) (leaves_part d x l e) t.1)

pub tight_run : {s : ℕ} {A : List Job} {Fs : List (List Job)} {os : List (Option Job)} (d : ℕ) → JobRun (keeps_at 0 d) s A Fs os
    → TightRun s (part (items d A)) (parts (groups d Fs)) (ones os)
tight_run d r = part_run d TightStep tight_step_same (λ s x A n. tight_step d s x A n.left (kept 0 d s n.h A x n.left n.pass)) r

-- a job of order j leaves the tree
pub leaves : (j d s h : ℕ) (left : List Job) (x : ℕ) (p : Job) → j ≤ d → Left h left → Memᴰ p (no_regret_after s d j (select (in_date s) left)) → found s left x ≡ some p
    → NoRegret j d s (tree d (items d left)) (tree d (items d (without (valid s left x) left))) (bits d p.grade)
leaves j d s h left x p k l m e =
    subst (λ t. NoRegret j d s (tree d (items d left)) (tree d (items d (without t left))) (bits d p.grade)) (sym (found_valid s left x p e))
    (no_regret_leaves s d j k (without_less l.rising (after_left j d s left m).0) m)

-- what a closing adds to the counts of the starts
adds : ℕ → Option Job → Count
adds d o = λ v. one_if (passes (graded d v) o)

tree_step : (j d s h : ℕ) (left : List Job) (x : ℕ) → j ≤ d → Left h left → Kept j d s left x
    → (g : Count) × Step j d s (tree d (items d left)) (tree d (items d (without (valid s left x) left))) g × ((v : List Bool) → adds d (found s left x) v ≡ g v)
unfolding adds passes one_if graded
tree_step j d s h left x k l (idle n e) = (
  λ v. 0,
  R.rest (omega (arith, total_tree d (items d left) s, none_in_date d s left n))
      (subst (λ (X : List Job). SameTree d (suc s) (tree d (items d left)) (tree d (items d X))) (sym (nothing_baked s x l e)) (same_tree_refl d (suc s) (tree d (items d left)))),
  λ v. ap (λ (o : Option Job). one_if (passes (graded d v) o)) e,
)
tree_step j d s h left x k l (bake p m e) = (
  λ v. R.starts v (bits d p.grade),
  R.take (bits d p.grade) (leaves j d s h left x p k l m e),
  λ v. ap (λ (o : Option Job). one_if (passes (graded d v) o)) e ∙ sym (starts_one_if v (bits d p.grade)),
)

-- jobs that arrive
tree_arrives : (d n : ℕ) (K F : List Job) → SameTree d n (join_tree d (tree d (items d K)) (tree d (items d F))) (tree d (items d (K ++ F)))
tree_arrives d n K F =
    let T = join_tree d (tree d (items d K)) (tree d (items d F)) in
    subst (λ (X : List Item). SameTree d n T (tree d X)) (sym (items_append d K F))
    (same_tree_sym d n (tree d (items d K ++ items d F)) T (tree_append d n (items d K) (items d F)))

-- the first i closings
pub tree_run : {j d s : ℕ} {A : List Job} {Fs : List (List Job)} {os : List (Option Job)} → j ≤ d → JobRun (keeps_at j d) s A Fs os → (i : ℕ)
    → Run j d s (tree d (items d A)) (slots d (groups d (take i Fs))) (λ v. tally (graded d v) os i)
unfolding groups slots tally adds
tree_run k done zero = R.stop (λ v. refl)
tree_run k done (suc i) = R.stop (λ v. refl)
tree_run k (step x n r) zero = R.stop (λ v. refl)
tree_run {j} {d} {s} {A} k (step {F = F} {os = os} x n r) (suc i) =
    let rest = without (valid s A x) A in
    let st = tree_step j d s n.h A x k n.left (kept j d s n.h A x n.left n.pass) in
    R.serve (tree d (items d rest)) st.0 (λ v. tally (graded d v) os i) st.1 (run_same (tree_arrives d (suc s) rest F) (tree_run k r i))
    (λ v. ap (λ m. m + tally (graded d v) os i) (st.2 v))

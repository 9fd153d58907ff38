-- What a rule bakes on a book, as a run along the parts of the theory of heights: any rule's is a schedule.
use mathlib.Core.Path.{◌≡◌, refl, sym, ap, ◌∙◌, subst}
use mathlib.Core.Bool.{Bool}
use mathlib.Core.Option.{Option, none, some}
use mathlib.Core.List.{List, [], ◌∷◌, ◌++◌}
use Prim.Native.Nat.{ℕ, zero, suc, ◌+◌}
use native.Mathlib.Omega.{arith}
use lib.ListN.{take, length}
use Rattle.lists.specs.Select.{one_if}
use Rattle.heights.proofs.Heights.Part.{Part, ◌⊕◌, Same, same_refl, same_sym, Out}
use Rattle.heights.proofs.Schedule.Run.{AnyStep, Along, stop, next, StepSame, any_step_same, along_same, Schedule, sum}
use Rattle.heights.proofs.Items.Item.{Item, part, parts, part_append, part_out}
use Rattle.rule.specs.Job.{Job}
use Rattle.rule.specs.Bake.{ticket_of}
use Rattle.rule.proofs.NoRegret.Items.{item, items, less_items}
use Rattle.books.specs.Rule.{valid, without}
use Rattle.books.proofs.Walks.Tickets.{rising_above}
use Rattle.books.proofs.Walks.Without.{without_none, without_less}
use Rattle.books.proofs.Walks.Left.{Left}
use Rattle.books.proofs.Walks.Picks.{found, search}
use Rattle.books.proofs.Schedules.Counts.{passes, one_none, any, one_any, tally}
use Rattle.books.proofs.Runs.JobRun.{Named, JobRun, done, step}

pub items_append : (d : ℕ) (K L : List Job) → items d (K ++ L) ≡ items d K ++ items d L
unfolding items
items_append d [] L = refl
items_append d (r ∷ K) L = ap (item d r ∷◌) (items_append d K L)

-- lists of jobs as lists of items
unfoldable pub groups : ℕ → List (List Job) → List (List Item)
groups d [] = []
groups d (G ∷ Gs) = items d G ∷ groups d Gs

-- 1 for each slot that bakes a job
unfoldable pub ones : List (Option Job) → List ℕ
ones [] = []
ones (o ∷ os) = one_if (passes any o) ∷ ones os

pub sum_ones : (os : List (Option Job)) (k : ℕ) → sum (take k (ones os)) ≡ tally any os k
unfolding ones tally
sum_ones [] zero = refl
sum_ones [] (suc k) = refl
sum_ones (o ∷ os) zero = refl
sum_ones (o ∷ os) (suc k) = ap (λ n. one_if (passes any o) + n) (sum_ones os k)

pub sum_all : (os : List (Option Job)) → sum (ones os) ≡ tally any os (length os)
unfolding ones tally
sum_all [] = refl
sum_all (o ∷ os) = ap (λ n. one_if (passes any o) + n) (sum_all os)

-- jobs that arrive
pub arrives : (d n : ℕ) (K F : List Job) → Same n (part (items d K) ⊕ part (items d F)) (part (items d (K ++ F)))
arrives d n K F =
    subst (λ (X : List Item). Same n (part (items d K) ⊕ part (items d F)) (part X)) (sym (items_append d K F)) (same_sym (part_append n (items d K) (items d F)))

-- a ticket that names no job takes nothing away
pub nothing_baked : {h : ℕ} {left : List Job} (s x : ℕ) → Left h left → found s left x ≡ none → without (valid s left x) left ≡ left
unfolding ticket_of
nothing_baked {left = left} s x l e =
    let z : valid s left x ≡ 0 = (search s left x).named ∙ ap ticket_of e in
    without_none (valid s left x) left (λ r m q. omega (arith, rising_above l.rising m))

-- the job found is the ticket's
pub found_valid : (s : ℕ) (left : List Job) (x : ℕ) (p : Job) → found s left x ≡ some p → valid s left x ≡ p.ticket
unfolding ticket_of
found_valid s left x p e = (search s left x).named ∙ ap ticket_of e

-- the job found leaves the counts
pub leaves_part : {h s : ℕ} {left : List Job} {p : Job} (d x : ℕ) → Left h left → found s left x ≡ some p
    → Out s p.last (part (items d left)) (part (items d (without (valid s left x) left)))
leaves_part {s = s} {left} {p} d x l e =
    let f = (search s left x).is p e in
    subst (λ t. Out s p.last (part (items d left)) (part (items d (without t left)))) (sym (found_valid s left x p e))
    (part_out (less_items d (without_less l.rising f.mem)) f.date)

-- or they stay
pub stays_part : {h s : ℕ} {left : List Job} (d x : ℕ) → Left h left → found s left x ≡ none
    → Same (suc s) (part (items d left)) (part (items d (without (valid s left x) left)))
stays_part {s = s} {left} d x l e =
    subst (λ (X : List Job). Same (suc s) (part (items d left)) (part (items d X))) (sym (nothing_baked s x l e)) (same_refl (suc s) (part (items d left)))

-- a run along the parts that the groups of jobs make, if each step is one of the parts
pub part_run : {test : ℕ → List Job → ℕ → Bool} {s : ℕ} {A : List Job} {Fs : List (List Job)} {os : List (Option Job)} (d : ℕ)
    (Step : ℕ → Part → Part → ℕ → Type 0) → StepSame Step
    → ((s x : ℕ) (A : List Job) → Named test s A x → Step s (part (items d A)) (part (items d (without (valid s A x) A))) (one_if (passes any (found s A x))))
    → JobRun test s A Fs os → Along Step s (part (items d A)) (parts (groups d Fs)) (ones os)
unfolding groups ones
part_run d Step f g done = stop
part_run {s = s} {A} d Step f g (step {F = F} x n r) =
    let K = without (valid s A x) A in
    next (part (items d K)) (one_if (passes any (found s A x))) (g s x A n)
    (along_same f (arrives d (suc s) K F) (part_run d Step f g r))

-- any rule's is a schedule
any_step : (d s x : ℕ) (left : List Job) {h : ℕ} → Left h left
    → AnyStep s (part (items d left)) (part (items d (without (valid s left x) left))) (one_if (passes any (found s left x)))
any_step d s x left l = go (found s left x) refl
  where
    go : (o : Option Job) → found s left x ≡ o
        → AnyStep s (part (items d left)) (part (items d (without (valid s left x) left))) (one_if (passes any (found s left x)))
    go none e = subst (AnyStep s (part (items d left)) (part (items d (without (valid s left x) left)))) (sym (one_none any e)) (AnyStep.rest (stays_part d x l e))
    go (some p) e = subst (AnyStep s (part (items d left)) (part (items d (without (valid s left x) left)))) (sym (one_any e)) (AnyStep.take p.last (leaves_part d x l e))

pub any_run : {test : ℕ → List Job → ℕ → Bool} {s : ℕ} {A : List Job} {Fs : List (List Job)} {os : List (Option Job)} (d : ℕ) → JobRun test s A Fs os
    → Schedule s (part (items d A)) (parts (groups d Fs)) (ones os)
any_run d r = part_run d AnyStep any_step_same (λ s x A n. any_step d s x A n.left) r

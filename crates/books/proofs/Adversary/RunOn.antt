-- What is baked where a book is cut and goes on with what an adversary lets arrive, as a run along these arrivals.
use mathlib.Core.Path.{◌≡◌, sym, ap, ◌∙◌, subst₂}
use mathlib.Core.Option.{Option}
use mathlib.Core.List.{List, ◌++◌}
use Prim.Native.Nat.{ℕ, suc, ◌≤◌}
use lib.ListN.{take}
use lib.Seq.{take-length}
use Rattle.heights.proofs.Heights.Part.{Part, ◌⊕◌, same_sym}
use Rattle.heights.proofs.Schedule.Run.{Along, StepSame, along_same, Schedule, any_step_same, TightRun, tight_step_same}
use Rattle.heights.proofs.Trees.Tree.{join_tree, same_tree_sym}
use Rattle.heights.proofs.Trees.Run.{Run, run_same}
use Rattle.heights.proofs.Items.Item.{Item, part, parts, part_append}
use Rattle.heights.proofs.Items.Tree.{tree, tree_append, slots}
use Rattle.heights.proofs.Adversary.Allowed.{Arrivals}
use Rattle.rule.specs.Job.{Job}
use Rattle.rule.specs.Grade.{graded}
use Rattle.rule.proofs.NoRegret.Items.{items}
use Rattle.books.specs.Book.{Change, closings}
use Rattle.books.specs.Rule.{Rule}
use Rattle.books.specs.Rival.{Setting, Tried}
use Rattle.books.specs.NoRegretRule.{keeps_at}
use Rattle.books.proofs.Walks.Place.{Place, rest, closing, EachFrom}
use Rattle.books.proofs.Walks.Groups.{first, later, later_length}
use Rattle.books.proofs.Walks.GoesOn.{GoesOn, goes_end}
use Rattle.books.proofs.Walks.Picks.{picks}
use Rattle.books.proofs.Schedules.Counts.{tally}
use Rattle.books.proofs.Runs.JobRun.{job_run, any_job_run}
use Rattle.books.proofs.Runs.AnyRun.{items_append, groups, ones, any_run}
use Rattle.books.proofs.Runs.KeptRuns.{tight_run, tree_run}
use Rattle.books.proofs.Adversary.Future.{ok, future, future_lifted, future_first, future_later}
use Rattle.books.proofs.Adversary.Stage.{Cut, staged, highest_at, staged_tried, place, goes_on}

module _ {S : Setting} (C : Cut S) (q : Rule) (A : Arrivals (ok S) S.depth (place C q).slot) where
  abbrev d : ℕ
  d = S.depth

  abbrev P : Place
  P = place C q

  abbrev n : ℕ
  n = suc P.slot

  -- the changes that let them arrive
  abbrev pub answer : List Change
  answer = future (highest_at C) n A.first A.later

  pub answered : Tried S (staged C answer)
  answered = staged_tried C answer (future_lifted S (highest_at C) n A.first A.later A.first_fit A.later_fit)

  goes : (x : ℕ) → GoesOn S (highest_at C) (closing P x) answer
  goes x = goes_end x (goes_on C q answered)

  together : (K : List Job) → items d (K ++ first n answer) ≡ items d K ++ A.first
  together K = items_append d K (first n answer) ∙ ap (λ (X : List Item). items d K ++ X) (future_first S (highest_at C) n A.first A.later A.first_fit)

  groups_are : groups d (later n answer) ≡ A.later
  groups_are = future_later S (highest_at C) n A.first A.later A.first_fit A.later_fit

  -- a run of parts with the jobs K left
  parts_on : {ks : List ℕ} {Step : ℕ → Part → Part → ℕ → Type 0} → StepSame Step → (K : List Job)
      → Along Step n (part (items d (K ++ first n answer))) (parts (groups d (later n answer))) ks → Along Step n (part (items d K) ⊕ part A.first) (parts A.later) ks
  parts_on {ks} {Step} f K r =
      along_same f (same_sym (part_append n (items d K) A.first)) (subst₂ (λ X Y. Along Step n (part X) (parts Y) ks) (together K) groups_are r)

  -- the rule r goes on where the ticket x was named
  module _ (r : Rule) (x : ℕ) where
    abbrev os : List (Option Job)
    os = picks r d C.b (closing P x) answer

    pub any_on : Schedule n (part (items d (rest P x)) ⊕ part A.first) (parts A.later) (ones os)
    any_on = parts_on any_step_same (rest P x) (any_run d (any_job_run r d C.b (goes x)))

    pub tight_on : EachFrom (keeps_at 0 d) r d C.b (closing P x) answer
        → TightRun n (part (items d (rest P x)) ⊕ part A.first) (parts A.later) (ones os)
    tight_on a = parts_on tight_step_same (rest P x) (tight_run d (job_run (keeps_at 0 d) r d C.b (goes x) a))

    pub tree_on : (i : ℕ) → i ≤ d → EachFrom (keeps_at i d) r d C.b (closing P x) answer
        → Run i d n (join_tree d (tree d (items d (rest P x))) (tree d A.first)) (slots d A.later) (λ v. tally (graded d v) os (closings answer))
    tree_on i k a =
        let m = closings answer in
        let K = rest P x in
        let all : take m (later n answer) ≡ later n answer = ap (λ l. take l (later n answer)) (sym (later_length n answer)) ∙ take-length (later n answer) in
        run_same
        (same_tree_sym d n (tree d (items d K ++ A.first)) (join_tree d (tree d (items d K)) (tree d A.first)) (tree_append d n (items d K) A.first))
        (subst₂ (λ X Y. Run i d n (tree d X) (slots d Y) (λ v. tally (graded d v) os m)) (together K) (ap (groups d) all ∙ groups_are)
        (tree_run k (job_run (keeps_at i d) r d C.b (goes x) a) m))

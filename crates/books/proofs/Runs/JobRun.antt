-- A run by jobs: in each slot a ticket is named, and when the slot has ended the next group of jobs arrives. What a rule bakes on a book is one.
use mathlib.Core.Path.{◌≡◌, refl, sym, subst}
use mathlib.Core.Bool.{Bool, true}
use mathlib.Core.Option.{Option}
use mathlib.Core.List.{List, [], ◌∷◌, ◌++◌, append_assoc, append-nil}
use Prim.Native.Nat.{ℕ, suc}
use Rattle.rule.specs.Job.{Job, job}
use Rattle.books.specs.Book.{Beginning, Change, enter, end_slot}
use Rattle.books.specs.Rule.{Rule, valid, without}
use Rattle.books.specs.Rival.{Setting}
use Rattle.books.specs.NoRegretRule.{EachClosing}
use Rattle.books.proofs.Walks.Place.{Place, entering, closing, EachFrom, named, each_from}
use Rattle.books.proofs.Walks.Groups.{first, later}
use Rattle.books.proofs.Walks.Left.{Left}
use Rattle.books.proofs.Walks.GoesOn.{GoesOn, goes_enter, goes_end}
use Rattle.books.proofs.Walks.Picks.{found, picks}

-- what is known where the ticket x is named in slot s, with the jobs A left
pub record Named (test : ℕ → List Job → ℕ → Bool) (s : ℕ) (A : List Job) (x : ℕ) : Type 0 where
  pub h : ℕ
  pub left : Left h A
  pub pass : test s A (valid s A x) ≡ true

-- a run by jobs: in each slot a ticket is named, and when it has ended the next group of jobs arrives
pub data JobRun (test : ℕ → List Job → ℕ → Bool) : ℕ → List Job → List (List Job) → List (Option Job) → Type 0 where
  done : {s : ℕ} {A : List Job} → JobRun test s A [] []
  step : {s : ℕ} {A F : List Job} {Fs : List (List Job)} {os : List (Option Job)} (x : ℕ) → Named test s A x
      → JobRun test (suc s) (without (valid s A x) A ++ F) Fs os → JobRun test s A (F ∷ Fs) (found s A x ∷ os)

-- what a rule bakes, whose closings pass the test
pub job_run : {S : Setting} {h : ℕ} {P : Place} {es : List Change} (test : ℕ → List Job → ℕ → Bool) (q : Rule) (d : ℕ) (b : Beginning) → GoesOn S h P es
    → EachFrom test q d b P es → JobRun test P.slot (P.left ++ first P.slot es) (later P.slot es) (picks q d b P es)
unfolding first later picks EachClosing
job_run {es = []} test q d b k a = done
job_run {P = P} {es = enter t w g ∷ es} test q d b k a =
    subst (λ (X : List Job). JobRun test P.slot X (later P.slot es) (picks q d b (entering P t w g) es))
    (append_assoc P.left (job t P.slot w g ∷ []) (first P.slot es)) (job_run {h = t} {P = entering P t w g} {es = es} test q d b (goes_enter k) a)
job_run {h = h} {P} {es = end_slot ∷ es} test q d b k a =
    let x = named q d b P in
    subst (λ (X : List Job). JobRun test P.slot X (later P.slot (end_slot ∷ es)) (picks q d b P (end_slot ∷ es))) (sym (append-nil P.left))
    (step x (record { h = h; left = k.left; pass = a.0 }) (job_run {h = h} {P = closing P x} {es = es} test q d b (goes_end x k) a.1))

-- any rule's
pub any_job_run : {S : Setting} {h : ℕ} {P : Place} {es : List Change} (q : Rule) (d : ℕ) (b : Beginning) → GoesOn S h P es
    → JobRun (λ s left t. true) P.slot (P.left ++ first P.slot es) (later P.slot es) (picks q d b P es)
any_job_run {P = P} {es} q d b k = job_run (λ s left t. true) q d b k (each_from q d b (λ s left t. true) P es (λ pre post e. refl))

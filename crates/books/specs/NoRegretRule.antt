-- Our rule as a rule of books, and rules that keep to the no-regret sets of order j.
use Rattle.std.specs.Prelude.{◌≡◌, Bool, true, not, ◌||◌, List, [], ◌∷◌, ◌++◌, ℕ, suc, ◌≤◌, eqb}
use Rattle.lists.specs.Select.{select, has}
use Rattle.rule.specs.Job.{Job, job, in_date}
use Rattle.rule.specs.Descent.{no_regret_after}
use Rattle.rule.specs.Bake.{baked, ticket_of}
use Rattle.books.specs.Book.{Beginning, Change, enter, end_slot, Book}
use Rattle.books.specs.Rule.{Rule, valid, without}
use Rattle.books.specs.Rival.{Setting, Tried, Level}

-- A way of choosing: from the depth, the beginning, the changes so far, the slot and the jobs left it names a ticket.
abbrev pub Choice : Type 0
Choice = (depth : ℕ) → Beginning → List Change → ℕ → List Job → ℕ

-- the ticket that a choice names after the changes to come, from the slot s and the jobs left
unfoldable pub replay : Choice → ℕ → Beginning → List Change → ℕ → List Job → List Change → ℕ
replay f d b past s left [] = f d b past s left
replay f d b past s left (enter t w g ∷ cs) = replay f d b (past ++ (enter t w g ∷ [])) s (left ++ (job t s w g ∷ [])) cs
replay f d b past s left (end_slot ∷ cs) =
    replay f d b (past ++ (end_slot ∷ [])) (suc s) (without (valid s left (f d b past s left)) left) cs

-- the rule that makes this choice at every closing
unfoldable pub by_choice : Choice → Rule
by_choice f d b past = replay f d b [] b.slot b.jobs past

-- the job that 01's rule bakes, of the jobs left that are in date
unfoldable pub our_choice : Choice
our_choice d b past s left = ticket_of (baked s d (select (in_date s) left))

unfoldable pub our_rule : Rule
our_rule = by_choice our_choice

-- where a job is in date, the ticket t is one of the no-regret set of order j
unfoldable pub keeps_at : (j d s : ℕ) → List Job → ℕ → Bool
keeps_at j d s left t =
    not (has (in_date s) left) || has (λ (r : Job). eqb r.ticket t) (no_regret_after s d j (select (in_date s) left))

-- Every closing of the changes to come passes the test, which reads the slot, the rule's own jobs left and the ticket that it bakes.
unfoldable pub EachClosing : (ℕ → List Job → ℕ → Bool) → Rule → ℕ → Beginning → List Change → ℕ → List Job → List Change → Type 0
EachClosing test q d b past s left [] = Unit {0}
EachClosing test q d b past s left (enter t w g ∷ cs) = EachClosing test q d b (past ++ (enter t w g ∷ [])) s (left ++ (job t s w g ∷ [])) cs
EachClosing test q d b past s left (end_slot ∷ cs) =
    let t = valid s left (q d b past) in
    (test s left t ≡ true) × EachClosing test q d b (past ++ (end_slot ∷ [])) (suc s) (without t left) cs

-- every closing bakes a job of the no-regret set of order j of the rule's own jobs, whenever one is in date
abbrev pub KeepsAlong : (j : ℕ) → Rule → ℕ → Beginning → List Change → ℕ → List Job → List Change → Type 0
KeepsAlong j q d = EachClosing (keeps_at j d) q d

-- on every book on which rules are tried
unfoldable pub Keeps : Setting → ℕ → Rule → Type 0
Keeps S j q =
    (B : Book) → Tried S B → KeepsAlong j q S.depth B.beginning [] B.beginning.slot B.beginning.jobs B.changes

-- where a job is in date, one is baked
unfoldable pub busy_at : ℕ → List Job → ℕ → Bool
busy_at s left t = not (has (in_date s) left) || not (eqb t 0)

-- the rule never idles with a job in date
unfoldable pub Busy : Setting → Rule → Type 0
Busy S q =
    (B : Book) → Tried S B → EachClosing busy_at q S.depth B.beginning [] B.beginning.slot B.beginning.jobs B.changes

-- The characterisation: a rule has level j exactly when it keeps to the no-regret sets of order j. Ours has every level.
pub record Characterised (S : Setting) : Type 0 where
  pub level_keeps : (j : ℕ) → j ≤ S.depth → (q : Rule) → Level S j q → Keeps S j q
  pub keeps_level : (j : ℕ) → j ≤ S.depth → (q : Rule) → Keeps S j q → Level S j q
  pub ours : (j : ℕ) → j ≤ S.depth → Level S j our_rule

-- A rule by choice keeps to the no-regret sets of order j, from n changes on, if its choice does at every closing after them.
use mathlib.Core.Path.{◌≡◌, sym, ap, ◌∙◌, subst}
use mathlib.Core.List.{List}
use Prim.Native.Nat.{ℕ, ◌+◌, ◌≤◌}
use native.Mathlib.Omega.{arith}
use lib.ListN.{length, length-append}
use Rattle.rule.specs.Job.{Job}
use Rattle.books.specs.Book.{Beginning, Change}
use Rattle.books.specs.Rule.{Rule}
use Rattle.books.specs.Rival.{Setting}
use Rattle.books.specs.NoRegretRule.{Choice, by_choice, our_choice, our_rule, keeps_at, Keeps}
use Rattle.books.proofs.Walks.Place.{Place, EachFrom, named, after, past_after, Passes}
use Rattle.books.proofs.Walks.ByChoice.{Reached, choice_at, reached_start, names, reached_after}
use Rattle.books.proofs.Walks.Left.{Left}
use Rattle.books.proofs.Walks.GoesOn.{GoesOn, goes_start}
use Rattle.books.proofs.Walks.Closings.{each_where}
use Rattle.books.proofs.Runs.Kept.{Kept, kept_at}
use Rattle.books.proofs.Choices.OurChoice.{ours_kept}

-- the choice f is of order j wherever n changes or more have been
abbrev pub KeptAfter : ℕ → Choice → ℕ → Beginning → ℕ → Type 0
KeptAfter j f d b n = (h : ℕ) (P : Place) → n ≤ length P.past → Left h P.left → Kept j d P.slot P.left (choice_at f d b P)

pub length_after : (q : Rule) (d : ℕ) (b : Beginning) (P : Place) (es : List Change) → length (after q d b P es).past ≡ length P.past + length es
length_after q d b P es = ap length (past_after q d b P es) ∙ length-append P.past es

-- so it is at a place that it leads to
pub kept_there : {h : ℕ} {P : Place} (j d : ℕ) (b : Beginning) (f : Choice) (n : ℕ) → Reached f d b P → KeptAfter j f d b n → n ≤ length P.past
    → Left h P.left → Passes (by_choice f) d b (keeps_at j d) P
kept_there {h} {P} j d b f n r a i l =
    kept_at j d P.slot P.left (named (by_choice f) d b P) (subst (Kept j d P.slot P.left) (sym (names f d b r)) (a h P i l))

pub kept_from : {S : Setting} {h : ℕ} {P : Place} {es : List Change} (j d : ℕ) (b : Beginning) (f : Choice) (n : ℕ) → GoesOn S h P es → Reached f d b P
    → KeptAfter j f d b n → n ≤ length P.past → EachFrom (keeps_at j d) (by_choice f) d b P es
kept_from {P = P} j d b f n k r a i =
    each_where k (by_choice f) d b (keeps_at j d)
    (λ pre post e g. kept_there j d b f n (reached_after f d b pre r) a (omega (arith, length_after (by_choice f) d b P pre)) g.left)

-- a choice that keeps at every closing of every book
pub choice_keeps : (S : Setting) (j : ℕ) (f : Choice)
    → ((b : Beginning) (past : List Change) (s h : ℕ) (left : List Job) → Left h left → Kept j S.depth s left (f S.depth b past s left))
    → Keeps S j (by_choice f)
unfolding Keeps
choice_keeps S j f k B T =
    let b = B.beginning in
    kept_from j S.depth b f 0 (goes_start T) (reached_start f S.depth b) (λ h P i l. k b P.past P.slot h P.left l) (omega arith)

-- ours keeps to the no-regret sets of every order
pub ours_keeps : (S : Setting) (j : ℕ) → j ≤ S.depth → Keeps S j our_rule
unfolding our_rule
ours_keeps S j i = choice_keeps S j our_choice (λ b past s h left l. ours_kept j S.depth b past s h left i l)

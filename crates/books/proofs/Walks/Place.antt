-- Where a rule stands on a book: the changes so far, the slot, and the jobs left. Where it stands after more changes.
use mathlib.Core.Path.{◌≡◌, refl, sym, ap, ◌∙◌}
use mathlib.Core.Bool.{Bool, true}
use mathlib.Core.List.{List, [], ◌∷◌, ◌++◌, append_assoc, append-nil}
use Prim.Native.Nat.{ℕ, suc}
use Rattle.rule.specs.Job.{Job, job}
use Rattle.books.specs.Book.{Beginning, Change, enter, end_slot}
use Rattle.books.specs.Rule.{Rule, valid, without}
use Rattle.books.specs.NoRegretRule.{EachClosing}

pub record Place : Type 0 where
  pub past : List Change
  pub slot : ℕ
  pub left : List Job

-- at the beginning
abbrev pub start : Beginning → Place
start b = record { past = []; slot = b.slot; left = b.jobs }

-- a job has entered
abbrev pub entering : Place → (t w g : ℕ) → Place
entering P t w g = record { past = P.past ++ (enter t w g ∷ []); slot = P.slot; left = P.left ++ (job t P.slot w g ∷ []) }

-- the jobs left when the ticket x is named in this slot
abbrev pub rest : Place → ℕ → List Job
rest P x = without (valid P.slot P.left x) P.left

-- the slot has ended, in which the ticket x was named
abbrev pub closing : Place → ℕ → Place
closing P x = record { past = P.past ++ (end_slot ∷ []); slot = suc P.slot; left = rest P x }

-- each closing of the changes es, from P on, passes the test
abbrev pub EachFrom : (ℕ → List Job → ℕ → Bool) → Rule → ℕ → Beginning → Place → List Change → Type 0
EachFrom test q d b P es = EachClosing test q d b P.past P.slot P.left es

module _ (q : Rule) (d : ℕ) (b : Beginning) where
  -- the ticket that the rule names at P
  abbrev pub named : Place → ℕ
  named P = q d b P.past

  -- after the changes es
  unfoldable pub after : Place → List Change → Place
  after P [] = P
  after P (enter t w g ∷ es) = after (entering P t w g) es
  after P (end_slot ∷ es) = after (closing P (named P)) es

  pub past_after : (P : Place) (es : List Change) → (after P es).past ≡ P.past ++ es
  unfolding after
  past_after P [] = sym (append-nil P.past)
  past_after P (enter t w g ∷ es) = past_after (entering P t w g) es ∙ append_assoc P.past (enter t w g ∷ []) es
  past_after P (end_slot ∷ es) = past_after (closing P (named P)) es ∙ append_assoc P.past (end_slot ∷ []) es

  -- the closing at P passes the test
  abbrev pub Passes : (ℕ → List Job → ℕ → Bool) → Place → Type 0
  Passes test P = test P.slot P.left (valid P.slot P.left (named P)) ≡ true

  module _ (test : ℕ → List Job → ℕ → Bool) where
    -- closings that pass, those after the first changes
    pub each_after : (P : Place) (pre post : List Change) → EachFrom test q d b P (pre ++ post) → EachFrom test q d b (after P pre) post
    unfolding EachClosing after
    each_after P [] post a = a
    each_after P (enter t w g ∷ pre) post a = each_after (entering P t w g) pre post a
    each_after P (end_slot ∷ pre) post a = each_after (closing P (named P)) pre post a.1

    -- they pass where each does
    pub each_from : (P : Place) (es : List Change) → ((pre post : List Change) → es ≡ pre ++ (end_slot ∷ post) → Passes test (after P pre)) → EachFrom test q d b P es
    unfolding EachClosing after
    each_from P [] f = tt
    each_from P (enter t w g ∷ es) f = each_from (entering P t w g) es (λ pre post e. f (enter t w g ∷ pre) post (ap (enter t w g ∷◌) e))
    each_from P (end_slot ∷ es) f = (f [] es refl, each_from (closing P (named P)) es (λ pre post e. f (end_slot ∷ pre) post (ap (end_slot ∷◌) e)))

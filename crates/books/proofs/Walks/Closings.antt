-- A test that every closing passes: it is passed where the book goes on at each closing, and weakened to another that follows from it.
use mathlib.Core.Path.{◌≡◌, subst}
use mathlib.Core.Bool.{Bool, true}
use mathlib.Core.List.{List, ◌∷◌, ◌++◌}
use Prim.Native.Nat.{ℕ}
use Rattle.rule.specs.Job.{Job}
use Rattle.books.specs.Book.{Beginning, Change, end_slot, raised}
use Rattle.books.specs.Rule.{Rule, valid}
use Rattle.books.specs.Rival.{Setting}
use Rattle.books.specs.NoRegretRule.{EachClosing}
use Rattle.books.proofs.Walks.Left.{Left}
use Rattle.books.proofs.Walks.Place.{Place, EachFrom, named, after, Passes, each_after, each_from}
use Rattle.books.proofs.Walks.GoesOn.{GoesOn, goes_after}

module _ {S : Setting} {h : ℕ} {P : Place} {es : List Change} (k : GoesOn S h P es) (q : Rule) (d : ℕ) (b : Beginning) where
  pub each_where : (test : ℕ → List Job → ℕ → Bool)
      → ((pre post : List Change) → es ≡ pre ++ (end_slot ∷ post) → GoesOn S (raised h pre) (after q d b P pre) (end_slot ∷ post) → Passes q d b test (after q d b P pre))
      → EachFrom test q d b P es
  each_where test f = each_from q d b test P es (λ pre post e. f pre post e (goes_after q d b pre (end_slot ∷ post) (subst (GoesOn S h P) e k)))

  pub each_weaker : (strong weak : ℕ → List Job → ℕ → Bool)
      → ((s h : ℕ) (left : List Job) (x : ℕ) → Left h left → strong s left (valid s left x) ≡ true → weak s left (valid s left x) ≡ true)
      → EachFrom strong q d b P es → EachFrom weak q d b P es
  unfolding EachClosing
  each_weaker strong weak f a =
      each_where weak
      (λ pre post e g.
      let Q = after q d b P pre in
      f Q.slot (raised h pre) Q.left (named q d b Q) g.left
      (each_after q d b strong P pre (end_slot ∷ post) (subst (EachFrom strong q d b P) e a)).0)

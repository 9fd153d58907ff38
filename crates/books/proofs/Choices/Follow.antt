-- The rule that follows another for its first n changes and is ours from then on. While it follows, both bake the same jobs and have the same left.
-- It keeps to the no-regret sets of order j if the other does.
use mathlib.Core.Path.{◌≡◌, refl, sym, ap, ◌∙◌, subst}
use mathlib.Core.Bool.{true, cond}
use mathlib.Core.Logic.{⊎_elim}
use mathlib.Core.List.{List, [], ◌∷◌}
use Prim.Native.Nat.{ℕ, ◌+◌, ◌≤◌, ◌<◌}
use native.Mathlib.Omega.{arith}
use lib.Dec.{ltb}
use lib.ListN.{length, length-append}
use borrow.Author.Tests.{lt-ltb, le-ltb}
use Rattle.lists.proofs.Tests.{cmp, cond_true, cond_false}
use Rattle.books.specs.Book.{Beginning, Change, enter, end_slot}
use Rattle.books.specs.Rule.{Rule, valid}
use Rattle.books.specs.Rival.{Setting}
use Rattle.books.specs.NoRegretRule.{Choice, by_choice, our_choice, keeps_at, EachClosing, Keeps}
use Rattle.books.proofs.Walks.Place.{Place, start, entering, closing, EachFrom, named, after, Passes, each_after}
use Rattle.books.proofs.Walks.ByChoice.{Reached, choice_at, reached_start, reached_enter, reached_end, names, reached_after}
use Rattle.books.proofs.Walks.Picks.{found, picks}
use Rattle.books.proofs.Walks.GoesOn.{GoesOn, goes_start}
use Rattle.books.proofs.Walks.Closings.{each_where}
use Rattle.books.proofs.Runs.Kept.{Kept}
use Rattle.books.proofs.Choices.OurChoice.{ours_kept}
use Rattle.books.proofs.Choices.KeptChoice.{KeptAfter, length_after, kept_there}

unfoldable pub follow : ℕ → Rule → Choice
follow n q d b past s left = cond (ltb (length past) n) (q d b past) (our_choice d b past s left)

module _ (d : ℕ) (b : Beginning) (n : ℕ) (q : Rule) where
  abbrev f : Choice
  f = follow n q

  abbrev σ : Rule
  σ = by_choice f

  -- after n changes it is ours, before it is q
  pub after_n : (P : Place) → n ≤ length P.past → choice_at f d b P ≡ choice_at our_choice d b P
  unfolding follow
  after_n P h = cond_false (ltb (length P.past) n) (named q d b P) (choice_at our_choice d b P) (le-ltb (length P.past) n h)

  before_n : (P : Place) → length P.past < n → choice_at f d b P ≡ named q d b P
  unfolding follow
  before_n P h = cond_true (ltb (length P.past) n) (named q d b P) (choice_at our_choice d b P) (lt-ltb (length P.past) n h)

  pub kept_after_n : (j : ℕ) → j ≤ d → KeptAfter j f d b n
  kept_after_n j k h P i l = subst (Kept j d P.slot P.left) (sym (after_n P i)) (ours_kept j d b P.past P.slot h P.left k l)

  -- it names what q names
  follows : {P : Place} → Reached f d b P → length P.past < n → named σ d b P ≡ named q d b P
  follows {P} r h = names f d b r ∙ before_n P h

  -- the same place, and the same jobs baked
  pub lock : (P : Place) (es : List Change) → Reached f d b P → length P.past + length es ≤ n
      → (after σ d b P es ≡ after q d b P es) × (picks σ d b P es ≡ picks q d b P es)
  unfolding after picks
  lock P [] r h = (refl, refl)
  lock P (enter t w g ∷ es) r h = lock (entering P t w g) es (reached_enter f d b t w g r) (omega (arith, length-append P.past (enter t w g ∷ [])))
  lock P (end_slot ∷ es) r h =
      let e = follows r (omega arith) in
      let x = named q d b P in
      let k =
      lock (closing P x) es (subst (λ y. Reached f d b (closing P y)) e (reached_end f d b r)) (omega (arith, length-append P.past (end_slot ∷ [])))
      in (
        ap (λ y. after σ d b (closing P y) es) e ∙ k.0,
        ap (λ y. found P.slot P.left y ∷ picks σ d b (closing P y) es) e ∙ ap (found P.slot P.left x ∷◌) k.1,
      )

  follow_along : {S : Setting} {h : ℕ} {es : List Change} (j : ℕ) → j ≤ d → GoesOn S h (start b) es → EachFrom (keeps_at j d) q d b (start b) es
      → EachFrom (keeps_at j d) σ d b (start b) es
  unfolding EachClosing
  follow_along j k g a =
      each_where g σ d b (keeps_at j d)
      (λ pre post e m.
      let Q = after σ d b (start b) pre in
      let l = length_after σ d b (start b) pre in
      let r : Reached f d b Q = reached_after f d b pre (reached_start f d b) in
      ⊎_elim
      (λ (i : n ≤ length pre). kept_there j d b f n r (kept_after_n j k) (omega arith) m.left)
      (λ (i : length pre < n).
      subst (λ x. keeps_at j d Q.slot Q.left (valid Q.slot Q.left x) ≡ true) (sym (follows r (omega arith)))
      (subst (Passes q d b (keeps_at j d)) (sym (lock (start b) pre (reached_start f d b) (omega arith)).0)
      (each_after q d b (keeps_at j d) (start b) pre (end_slot ∷ post) (subst (EachFrom (keeps_at j d) q d b (start b)) e a)).0))
      (cmp n (length pre)))

pub follow_keeps : (S : Setting) (j n : ℕ) (q : Rule) → j ≤ S.depth → Keeps S j q → Keeps S j (by_choice (follow n q))
unfolding Keeps
follow_keeps S j n q k a B T = follow_along S.depth B.beginning n q j k (goes_start T) (a B T)

-- A rule that keeps to order j, and that no follower of its own beats on a start of j bits, keeps to order j + 1: if it bakes a job of order j that is not of
-- order j + 1, it is beaten by the rule that follows it up to there and is ours from then on.
use mathlib.Core.Path.{◌≡◌, sym, ◌∙◌, subst}
use mathlib.Core.Bool.{Bool, false}
use mathlib.Core.Option.{some}
use mathlib.Core.List.{List, [], ◌∷◌, ◌++◌, Memᴰ}
use Prim.Native.Nat.{ℕ, suc, ◌+◌, ◌<◌}
use native.Mathlib.Omega.{arith}
use lib.ListN.{length}
use Rattle.lists.specs.Select.{one_if, select}
use Rattle.lists.proofs.Tests.{never}
use Rattle.heights.proofs.Trees.NoRegret.{NoRegret}
use Rattle.heights.proofs.Trees.Run.{starts as starts-number}
use Rattle.heights.proofs.Items.Tree.{tree}
use Rattle.heights.proofs.Adversary.Allowed.{only_tree}
use Rattle.heights.proofs.Adversary.Trap.{Beaten}
use Rattle.heights.proofs.Adversary.Beaten.{beaten}
use Rattle.rule.specs.Job.{Job, in_date}
use Rattle.rule.specs.Grade.{bits, graded}
use Rattle.rule.specs.Descent.{no_regret_after}
use Rattle.rule.proofs.NoRegret.Items.{items}
use Rattle.rule.proofs.NoRegret.Order.{leaves_no_regret}
use Rattle.rule.proofs.NoRegret.Start.{starts_one_if}
use Rattle.books.specs.Book.{Book, closings}
use Rattle.books.specs.Rule.{Rule, without, made_by}
use Rattle.books.specs.Rival.{Setting, Tried, NoLarger, count_of}
use Rattle.books.specs.NoRegretRule.{by_choice, keeps_at, Keeps}
use Rattle.books.proofs.Walks.Place.{Place, rest, closing}
use Rattle.books.proofs.Walks.Without.{without_less}
use Rattle.books.proofs.Walks.Picks.{found, Found, search, picks}
use Rattle.books.proofs.Schedules.Counts.{passes, one_some, tally}
use Rattle.books.proofs.Runs.Kept.{Kept, idle, bake, kept, found_dated, kept_unless}
use Rattle.books.proofs.Runs.AnyRun.{found_valid}
use Rattle.books.proofs.Runs.KeptRuns.{leaves}
use Rattle.books.proofs.Choices.Follow.{follow}
use Rattle.books.proofs.Adversary.Future.{ok}
use Rattle.books.proofs.Adversary.Stage.{Cut, staged, highest_at, staged_closed, place, ticket, goes_here, staged_count, at_cut, each_cut}
use Rattle.books.proofs.Adversary.Allowed.{all_allowed}
use Rattle.books.proofs.Adversary.Turning.{turned, ours_at, ours_there, turned_count, turned_keeps}
use Rattle.books.proofs.Adversary.RunOn.{answer, answered, tree_on}

-- no rule that follows q for a while and is then ours has a larger count
abbrev pub UnbeatenByFollowers : Setting → ℕ → Rule → Type 0
UnbeatenByFollowers S j q =
    (B : Book) → Tried S B → (n : ℕ) → NoLarger S j B (made_by (by_choice (follow n q)) S.depth B) (made_by q S.depth B)

module _ {S : Setting} (j : ℕ) (jd : j < S.depth) (q : Rule) (a : Keeps S j q) (unbeaten : UnbeatenByFollowers S j q) (C : Cut S) where
  abbrev d : ℕ
  d = S.depth

  abbrev P : Place
  P = place C q

  -- a job found, as a number for the start v
  one : (x : ℕ) {r : Job} (v : List Bool) → found P.slot P.left x ≡ some r
      → one_if (passes (graded d v) (found P.slot P.left x)) ≡ starts-number v (bits d r.grade)
  unfolding graded
  one x {r} v z = one_some (graded d v) z ∙ sym (starts_one_if v (bits d r.grade))

  -- arrivals on which q has a smaller count
  wins : {p r : Job} → found P.slot P.left (ticket C q) ≡ some p → found P.slot P.left (ours_at C q) ≡ some r
      → Beaten (ok S) j d P.slot (tree d (items d (rest P (ticket C q)))) (tree d (items d (rest P (ours_at C q)))) (bits d p.grade) (bits d r.grade) → ⊥
  unfolding NoLarger count_of
  wins e y B =
      let E = answer C q B.by in
      let T = answered C q B.by in
      let v = B.u ++ (false ∷ []) in
      let k = closings C.pre + suc (closings E) in
      omega (
        arith,
        unbeaten (staged C E) T (length C.pre) B.u B.bits k (omega (arith, staged_closed C E)),
        staged_count C q E T (graded d v) (closings E),
        turned_count C q E T (graded d v) (closings E),
        B.wins (λ w. tally (graded d w) (picks q d C.b (closing P (ticket C q)) E) (closings E))
            (λ w. tally (graded d w) (picks (turned C q) d C.b (closing P (ours_at C q)) E) (closings E))
            (tree_on C q B.by q (ticket C q) j (omega arith) (at_cut C q (keeps_at j d) E (unfold Keeps in a (staged C E) T)).1)
            (tree_on C q B.by (turned C q) (ours_at C q) (suc j) jd (turned_keeps C q E (suc j) jd T)),
        one (ticket C q) v e,
        one (ours_at C q) v y,
      )

  -- a job of order j that is not of order j + 1
  outside : (p : Job) → Memᴰ p (no_regret_after P.slot d j (select (in_date P.slot) P.left)) → found P.slot P.left (ticket C q) ≡ some p
      → (Memᴰ p (no_regret_after P.slot d (suc j) (select (in_date P.slot) P.left)) → ⊥) → ⊥
  outside p m e o = go (ours_there C q (suc j) jd)
    where
      s : ℕ
      s = P.slot

      L : List Job
      L = P.left

      f : Found s L (ticket C q) p
      f = (search s L (ticket C q)).is p e

      go : Kept (suc j) d s L (ours_at C q) → ⊥
      go (idle z y) = never (found_dated f) z
      go (bake r k y) =
          wins e y
          (beaten (ok S) j d s (tree d (items d L)) (tree d (items d (rest P (ticket C q)))) (tree d (items d (rest P (ours_at C q)))) (bits d p.grade) (bits d r.grade) jd
          (only_tree (ok S) d s (items d L) (all_allowed S L (goes_here C q).fits))
          (leaves j d s (highest_at C) L (ticket C q) p (omega arith) (goes_here C q).left m e) (leaves (suc j) d s (highest_at C) L (ours_at C q) r jd (goes_here C q).left k y)
          (λ z.
          o
          (leaves_no_regret s d (suc j) jd (without_less (goes_here C q).left.rising f.mem) f.date
          (subst (λ t. NoRegret (suc j) d s (tree d (items d L)) (tree d (items d (without t L))) (bits d p.grade)) (found_valid s L (ticket C q) p e) z))))

  -- so it bakes one of order j + 1, if one is in date
  kept_here : (Kept (suc j) d P.slot P.left (ticket C q) → ⊥) → ⊥
  kept_here out =
      go
      (kept j d P.slot (highest_at C) P.left (ticket C q) (goes_here C q).left
      (at_cut C q (keeps_at j d) C.post (unfold Keeps in a (staged C C.post) C.tried)).0)
    where
      go : Kept j d P.slot P.left (ticket C q) → ⊥
      go (idle i y) = out (idle i y)
      go (bake p m e) = outside p m e (λ k. out (bake p k e))

pub next_keeps : (S : Setting) (j : ℕ) → j < S.depth → (q : Rule) → Keeps S j q → UnbeatenByFollowers S j q → Keeps S (suc j) q
unfolding Keeps
next_keeps S j jd q a u B T =
    each_cut q (keeps_at (suc j) S.depth) T
    (λ C. kept_unless (suc j) S.depth (place C q).slot (place C q).left (ticket C q) (kept_here j jd q a u C))

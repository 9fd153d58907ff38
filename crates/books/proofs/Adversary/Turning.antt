-- The rule that follows q up to a closing and is ours from that closing on: what it has there, and what it bakes.
use mathlib.Core.Path.{◌≡◌, ap, ap₂, ◌∙◌, subst}
use mathlib.Core.Bool.{Bool}
use mathlib.Core.Option.{Option}
use mathlib.Core.List.{List, [], ◌∷◌}
use Prim.Native.Nat.{ℕ, suc, ◌+◌, ◌≤◌}
use native.Mathlib.Omega.{arith}
use lib.ListN.{length, length-append}
use Rattle.lists.specs.Select.{one_if}
use Rattle.rule.specs.Job.{Job}
use Rattle.books.specs.Book.{Change, end_slot, closings}
use Rattle.books.specs.Schedule.{baked_in}
use Rattle.books.specs.Rule.{Rule, made_by}
use Rattle.books.specs.Rival.{Setting, Tried}
use Rattle.books.specs.NoRegretRule.{Choice, by_choice, our_choice, keeps_at}
use Rattle.books.proofs.Walks.Place.{Place, start, closing, EachFrom, named}
use Rattle.books.proofs.Walks.ByChoice.{Reached, choice_at, reached_start, reached_end, names, reached_after}
use Rattle.books.proofs.Walks.GoesOn.{goes_end}
use Rattle.books.proofs.Walks.Picks.{found, picks}
use Rattle.books.proofs.Schedules.Counts.{passes, tally}
use Rattle.books.proofs.Runs.Kept.{Kept}
use Rattle.books.proofs.Choices.OurChoice.{ours_kept}
use Rattle.books.proofs.Choices.KeptChoice.{length_after, kept_from}
use Rattle.books.proofs.Choices.Follow.{follow, after_n, kept_after_n, lock}
use Rattle.books.proofs.Adversary.Stage.{Cut, staged, highest_at, place, goes_on, goes_here, picks_before, staged_count}

module _ {S : Setting} (C : Cut S) (q : Rule) where
  abbrev d : ℕ
  d = S.depth

  abbrev n : ℕ
  n = length C.pre

  abbrev f : Choice
  f = follow n q

  abbrev pub turned : Rule
  turned = by_choice f

  abbrev P : Place
  P = place C q

  -- our choice at the closing
  abbrev pub ours_at : ℕ
  ours_at = choice_at our_choice d C.b P

  -- which is of every order
  pub ours_there : (j : ℕ) → j ≤ d → Kept j d P.slot P.left ours_at
  ours_there j k = ours_kept j d C.b P.past P.slot (highest_at C) P.left k (goes_here C q).left

  locked : (place C turned ≡ P) × (picks_before C turned ≡ picks_before C q)
  locked = lock d C.b n q (start C.b) C.pre (reached_start f d C.b) (omega arith)

  reached : Reached f d C.b P
  reached = subst (Reached f d C.b) locked.0 (reached_after f d C.b C.pre (reached_start f d C.b))

  long : n ≤ length P.past
  long = omega (arith, length_after q d C.b (start C.b) C.pre)

  choice : named turned d C.b P ≡ ours_at
  choice = names f d C.b reached ∙ after_n d C.b n q P long

  -- the same before, our choice there
  pub turned_count : (E : List Change) → Tried S (staged C E) → (test : Job → Bool) (i : ℕ)
      → baked_in test (staged C E) (made_by turned d (staged C E)) (closings C.pre + suc i)
      ≡ tally test (picks_before C q) (closings C.pre)
      + (one_if (passes test (found P.slot P.left ours_at)) + tally test (picks turned d C.b (closing P ours_at) E) i)
  turned_count E T test i =
      staged_count C turned E T test i ∙ ap₂ (λ (os : List (Option Job)) (Q : Place). all os Q (named turned d C.b Q)) locked.1 locked.0
      ∙ ap (all (picks_before C q) P) choice
    where
      all : List (Option Job) → Place → ℕ → ℕ
      all os Q x =
          tally test os (closings C.pre) + (one_if (passes test (found Q.slot Q.left x)) + tally test (picks turned d C.b (closing Q x) E) i)

  -- it keeps to the sets of every order from there on
  pub turned_keeps : (E : List Change) (j : ℕ) → j ≤ d → Tried S (staged C E) → EachFrom (keeps_at j d) turned d C.b (closing P ours_at) E
  turned_keeps E j k T =
      kept_from j d C.b f n (goes_end ours_at (goes_on C q T)) (subst (λ x. Reached f d C.b (closing P x)) choice (reached_end f d C.b reached))
      (kept_after_n d C.b n q j k) (omega (arith, long, length-append P.past (end_slot ∷ [])))

-- A book cut at a closing and gone on with as an adversary likes, and what any rule bakes on it: before that closing, in it, and after.
use mathlib.Core.Path.{◌≡◌, sym, ap, ◌∙◌, subst}
use mathlib.Core.Bool.{Bool, true}
use mathlib.Core.Option.{Option}
use mathlib.Core.List.{List, [], ◌∷◌, ◌++◌}
use Prim.Native.Nat.{ℕ, suc, ◌+◌}
use native.Mathlib.Omega.{arith}
use lib.ListN.{length}
use Rattle.lists.specs.Select.{one_if}
use Rattle.rule.specs.Job.{Job}
use Rattle.books.specs.Book.{Beginning, Change, end_slot, Book, slots_closed, closings, raised}
use Rattle.books.specs.Schedule.{baked_in}
use Rattle.books.specs.Rule.{Rule, made_by}
use Rattle.books.specs.Rival.{Setting, lifted, Tried}
use Rattle.books.specs.NoRegretRule.{EachClosing}
use Rattle.books.proofs.Walks.Place.{Place, start, closing, EachFrom, named, after, Passes, each_after, each_from}
use Rattle.books.proofs.Walks.Groups.{closings_append}
use Rattle.books.proofs.Walks.GoesOn.{GoesOn, goes_start, goes_after, lifted_append, lifted_join}
use Rattle.books.proofs.Walks.Picks.{found, picks}
use Rattle.books.proofs.Walks.Positions.{picks_append, picks_length}
use Rattle.books.proofs.Schedules.Counts.{passes, tally, baked_tally}

-- a list in two parts
tally_append : (test : Job → Bool) (xs ys : List (Option Job)) (i : ℕ) → tally test (xs ++ ys) (length xs + i) ≡ tally test xs (length xs) + tally test ys i
unfolding tally
tally_append test [] ys i = ap (tally test ys) (let z : 0 + i ≡ i = omega arith in z) ∙ (let z : tally test ys i ≡ 0 + tally test ys i = omega arith in z)
tally_append test (x ∷ xs) ys i =
    ap (tally test (x ∷ (xs ++ ys))) (let z : suc (length xs) + i ≡ suc (length xs + i) = omega arith in z)
    ∙ (let z : one_if (passes test x) + tally test (xs ++ ys) (length xs + i) ≡ one_if (passes test x) + tally test xs (length xs) + tally test ys i =
    omega (arith, tally_append test xs ys i)
    in z)

-- a book on which rules are tried, cut at a closing
pub record Cut (S : Setting) : Type 0 where
  pub b : Beginning
  pub pre : List Change
  pub post : List Change
  pub tried : Tried S (record { beginning = b; changes = pre ++ (end_slot ∷ post) })

module _ {S : Setting} (C : Cut S) where
  -- the book with the changes E after the closing
  abbrev pub staged : List Change → Book
  staged E = record { beginning = C.b; changes = C.pre ++ (end_slot ∷ E) }

  -- the highest ticket at the closing
  abbrev pub highest_at : ℕ
  highest_at = raised C.b.highest C.pre

  pub staged_tried : (E : List Change) → lifted S highest_at E ≡ true → Tried S (staged E)
  unfolding lifted
  staged_tried E e =
      let T = C.tried in
      record {
        beginning = T.beginning;
        at_first = T.at_first;
        later = lifted_join S C.b.highest C.pre (end_slot ∷ E) (lifted_append S C.b.highest C.pre (end_slot ∷ C.post) T.later).0 e;
      }

  pub staged_closed : (E : List Change) → slots_closed (staged E) ≡ closings C.pre + suc (closings E)
  unfolding slots_closed closings
  staged_closed E = closings_append C.pre (end_slot ∷ E)

  module _ (r : Rule) where
    -- where the rule stands at the closing, and what it names there
    abbrev pub place : Place
    place = after r S.depth C.b (start C.b) C.pre

    abbrev pub ticket : ℕ
    ticket = named r S.depth C.b place

    pub goes_on : {E : List Change} → Tried S (staged E) → GoesOn S highest_at place (end_slot ∷ E)
    goes_on {E} T = goes_after r S.depth C.b C.pre (end_slot ∷ E) (goes_start T)

    pub goes_here : GoesOn S highest_at place (end_slot ∷ C.post)
    goes_here = goes_on C.tried

    -- what it bakes before the closing
    abbrev pub picks_before : List (Option Job)
    picks_before = picks r S.depth C.b (start C.b) C.pre

    -- what it bakes of a test: before, in the closing, and in i slots after
    pub staged_count : (E : List Change) → Tried S (staged E) → (test : Job → Bool) (i : ℕ)
        → baked_in test (staged E) (made_by r S.depth (staged E)) (closings C.pre + suc i)
        ≡ tally test picks_before (closings C.pre)
        + (one_if (passes test (found place.slot place.left ticket)) + tally test (picks r S.depth C.b (closing place ticket) E) i)
    unfolding picks tally
    staged_count E T test i =
        let n = closings C.pre in
        let now = found place.slot place.left ticket in
        let later = picks r S.depth C.b (closing place ticket) E in
        let l = picks_length r S.depth C.b (start C.b) C.pre in
        baked_tally S (staged E) T r S.depth test (n + suc i)
        ∙ ap (λ (os : List (Option Job)). tally test os (n + suc i)) (picks_append r S.depth C.b (start C.b) C.pre (end_slot ∷ E))
        ∙ ap (λ m. tally test (picks_before ++ (now ∷ later)) (m + suc i)) (sym l)
        ∙ tally_append test picks_before (now ∷ later) (suc i)
        ∙ ap (λ m. tally test picks_before m + (one_if (passes test now) + tally test later i)) l

    -- a test that each closing passes, at the cut and after it
    pub at_cut : (test : ℕ → List Job → ℕ → Bool) (E : List Change) → EachFrom test r S.depth C.b (start C.b) (staged E).changes
        → Passes r S.depth C.b test place × EachFrom test r S.depth C.b (closing place ticket) E
    unfolding EachClosing
    at_cut test E a = each_after r S.depth C.b test (start C.b) C.pre (end_slot ∷ E) a

-- each closing passes a test that is passed wherever the book is cut
pub each_cut : {S : Setting} {B : Book} (r : Rule) (test : ℕ → List Job → ℕ → Bool) → Tried S B
    → ((C : Cut S) → Passes r S.depth C.b test (place C r)) → EachFrom test r S.depth B.beginning (start B.beginning) B.changes
each_cut {S} {B} r test T f =
    let b = B.beginning in
    each_from r S.depth b test (start b) B.changes
    (λ pre post e.
    f (record { b = b; pre = pre; post = post; tried = subst (λ (es : List Change). Tried S (record { beginning = b; changes = es })) e T }))

-- Where a stretch stands: board and day book agree, the book is one on which rules are tried, and the tickets named so far are our rule's.
use mathlib.Core.Path.{◌≡◌, refl, sym, ap, ap₂, ◌∙◌, subst}
use mathlib.Core.Bool.{Bool, true}
use mathlib.Core.List.{List, [], ◌∷◌, ◌++◌, append_assoc}
use Prim.Native.Nat.{ℕ, suc, ◌^◌, ◌<◌}
use lib.Dec.{ltb}
use borrow.Author.Tests.{lt-ltb}
use Rattle.lists.proofs.Tests.{and_intro}
use Rattle.rule.specs.Job.{job}
use Rattle.rule.specs.Bake.{ticket_of}
use Rattle.books.specs.Book.{Beginning, Change, enter, end_slot, raised, highest, extend}
use Rattle.books.specs.Rule.{valid, without}
use Rattle.books.specs.Rival.{fit, lifted}
use Rattle.books.specs.NoRegretRule.{our_choice}
use Rattle.books.proofs.Walks.ByChoice.{chosen}
use Rattle.books.proofs.Walks.Left.{enter_lifted}
use Rattle.books.proofs.Walks.GoesOn.{lifted_join}
use Rattle.board.specs.declared.Board.{Board}
use Rattle.board.specs.Sound.{sound}
use Rattle.board.specs.Held.{slot_of}
use Rattle.board.specs.Admit.{admit_number, with_job}
use Rattle.board.specs.Close.{close_number, bakes, moved_on_with}
use Rattle.board.specs.Withdraw.{without_ticket}
use Rattle.board.proofs.Calls.SoundAfter.{without_ticket_sound}
use Rattle.claims.specs.Calls.{admit, close, withdraw}
use Rattle.claims.specs.DayBook.{Day, new_day, through}
use Rattle.claims.specs.Stretches.{Stretch, book_of}
use Rattle.claims.specs.Demand3.{setting, begun_from}
use Rattle.claims.proofs.Admitted.{taken_rows}
use Rattle.claims.proofs.Agreement.Agree.{Agree}
use Rattle.claims.proofs.Agreement.Admitting.{agree_admitted}
use Rattle.claims.proofs.Agreement.Closing.{same_baked, choice, named_valid, agree_closed}
use Rattle.claims.proofs.Agreement.Beginning.{agree_begun}
use Rattle.claims.proofs.Agreement.Withdrawing.{afresh, same_depth, same_slot}

-- the tickets that our rule's choice names, from the changes so far, the slot and the jobs left on
abbrev pub ours_from : ℕ → Beginning → List Change → ℕ → Day → List Change → List ℕ
ours_from d b past s D es = chosen our_choice d b past s D.left es

pub record Runs (d s : ℕ) (b : Board) (x : Stretch) : Type 0 where
  pub agree : Agree d s b x.day
  pub as_board : (book_of x).beginning ≡ begun_from x.first
  pub first_sound : sound x.first ≡ true
  pub first_depth : x.first.depth ≡ d
  pub so_far : (begins : Beginning → Bool) → lifted (setting d begins) (book_of x).beginning.highest (book_of x).changes ≡ true
  -- what our rule names along the changes so far and those to come
  pub ran : (es : List Change)
      → ours_from d (book_of x).beginning [] (book_of x).beginning.slot (new_day (book_of x).beginning) ((book_of x).changes ++ es)
      ≡ x.named ++ ours_from d (book_of x).beginning (book_of x).changes s x.day es

-- a stretch that begins
pub runs_begun : {d s : ℕ} (b : Board) → sound b ≡ true → b.depth ≡ d → slot_of b ≡ s
    → Runs d s b (record { first = b; day = new_day (begun_from b); named = [] })
unfolding new_day begun_from lifted
runs_begun {d} b is_sound depth slot =
    record {
      agree = agree_begun b is_sound depth slot;
      as_board = refl;
      first_sound = is_sound;
      first_depth = depth;
      so_far = λ begins. refl;
      ran = λ es. ap (λ k. chosen our_choice d (begun_from b) [] k (begun_from b).jobs es) slot;
    }

module _ {d s : ℕ} {b : Board} {x : Stretch} (R : Runs d s b x) where
  abbrev D : Day
  D = x.day

  abbrev first : Beginning
  first = D.book.beginning

  -- after an admitting
  module _ (t w g : ℕ) (e : admit_number b t w g ≡ 0) where
    fits : (begins : Beginning → Bool) → lifted (setting d begins) (highest D.book) (enter t w g ∷ []) ≡ true
    unfolding lifted fit setting
    fits begins =
        let rows = taken_rows b t w g R.agree.is_sound e in
        enter_lifted (setting d begins) (highest D.book) t w g [] (subst (λ h. h < t) (sym R.agree.same_highest) rows.above) rows.some_laxity
        (and_intro (ltb g (2 ^ d)) true (lt-ltb g (2 ^ d) (subst (λ k. g < 2 ^ k) R.agree.depth rows.graded)) refl) refl

    pub runs_admitted : Runs d s (with_job b t w g) (record { first = x.first; day = through d D (admit t w g); named = x.named })
    unfolding through extend raised highest chosen
    runs_admitted =
        record {
          agree = agree_admitted R.agree t w g e;
          as_board = R.as_board;
          first_sound = R.first_sound;
          first_depth = R.first_depth;
          so_far = λ begins. lifted_join (setting d begins) first.highest D.book.changes (enter t w g ∷ []) (R.so_far begins) (fits begins);
          ran = λ es.
              ap (ours_from d first [] first.slot (new_day first)) (append_assoc D.book.changes (enter t w g ∷ []) es)
              ∙ R.ran (enter t w g ∷ es)
              ∙ ap (λ k. x.named ++ chosen our_choice d first (D.book.changes ++ (enter t w g ∷ [])) s (D.left ++ (job t k w g ∷ [])) es) (sym R.agree.book_slot);
        }

  -- after a closing
  pub runs_closed : (lent n : ℕ) → close_number b lent ≡ 0 → n ≡ ticket_of (bakes b)
      → Runs d (suc s) (moved_on_with b (ticket_of (bakes b))) (record { first = x.first; day = through d D (close lent); named = x.named ++ (n ∷ []) })
  unfolding through extend chosen
  runs_closed lent n e named =
      record {
        agree = agree_closed R.agree lent e;
        as_board = R.as_board;
        first_sound = R.first_sound;
        first_depth = R.first_depth;
        so_far = λ begins. lifted_join (setting d begins) first.highest D.book.changes (end_slot ∷ []) (R.so_far begins) (unfold lifted in refl);
        ran = λ es.
            ap (ours_from d first [] first.slot (new_day first)) (append_assoc D.book.changes (end_slot ∷ []) es)
            ∙ R.ran (end_slot ∷ es)
            ∙ ap (λ k. x.named ++ (k ∷ after k es)) (ap (valid s D.left) (choice R.agree first D.book.changes) ∙ named_valid R.agree)
            ∙ ap₂ (λ i j. x.named ++ (i ∷ after j es)) (sym named) (same_baked R.agree)
            ∙ sym (append_assoc x.named (n ∷ []) _);
      }
    where
      after : ℕ → List Change → List ℕ
      after k es = chosen our_choice d first (D.book.changes ++ (end_slot ∷ [])) (suc s) (without k D.left) es

  -- after a withdrawal the next begins
  pub runs_withdrawn : (t : ℕ) → Runs d s (without_ticket b t) (record { first = without_ticket b t; day = through d D (withdraw t); named = [] })
  runs_withdrawn t =
      let c = without_ticket b t in
      subst (λ y. Runs d s c (record { first = c; day = y; named = [] })) (sym (afresh R.agree t))
      (runs_begun c (without_ticket_sound b t R.agree.is_sound) (same_depth R.agree t) (same_slot R.agree t))

-- Demand 3: on each stretch our answers are what our rule makes of the day book, which is a book with the limits lifted; and our rule has every level.
use mathlib.Core.Path.{◌≡◌, refl, sym, ap, ◌∙◌, subst}
use mathlib.Core.Bool.{Bool, true}
use mathlib.Core.List.{[], append-nil}
use Prim.Native.Nat.{ℕ, ◌≤◌}
use native.Mathlib.Omega.{arith}
use Rattle.books.specs.Book.{Beginning}
use Rattle.books.specs.Schedule.{Schedule, IsSchedule, total, from_slot}
use Rattle.books.specs.Rule.{made_by}
use Rattle.books.specs.Rival.{Tried, begun, count_of}
use Rattle.books.specs.NoRegretRule.{our_choice, our_rule}
use Rattle.books.proofs.Walks.ByChoice.{chosen, choices_of_choice}
use Rattle.books.proofs.Schedules.Plans.{made_schedule}
use Rattle.books.proofs.Levels.OurRule.{ours_most, ours_at_least}
use Rattle.claims.specs.Stretches.{Stretch, book_of, our_plan}
use Rattle.claims.specs.DayBook.{new_day}
use Rattle.claims.specs.Demand3.{setting, such_racks, Unbeaten, Demand3}
use Rattle.claims.proofs.Agreement.Beginning.{such_begun, tried_begun}
use Rattle.claims.proofs.Drawing.Stretching.{Ran, every_stretch}

every_beginning : Beginning → Bool
every_beginning x = true

module _ (d : ℕ) (x : Stretch) (R : Ran d x) where
  tried : (begins : Beginning → Bool) → begins (book_of x).beginning ≡ true → Tried (setting d begins) (book_of x)
  unfolding setting
  tried begins e =
      let r = R.runs in
      record {
        beginning = e;
        at_first = ap (begun (setting d begins)) r.as_board ∙ tried_begun x.first r.first_sound r.first_depth begins;
        later = r.so_far begins;
      }

  -- our board's plan is the schedule that our rule makes of the day book
  plan_of_our_rule : our_plan x ≡ made_by our_rule d (book_of x)
  unfolding our_plan made_by our_rule new_day chosen
  plan_of_our_rule =
      let b = (book_of x).beginning in
      ap (from_slot b.slot)
      (sym (append-nil x.named)
      ∙ sym (R.runs.ran [])
      ∙ ap (chosen our_choice d b [] b.slot b.jobs) (append-nil (book_of x).changes)
      ∙ sym (choices_of_choice our_choice d b (book_of x).changes))

  unbeaten : Unbeaten d x
  unfolding setting
  unbeaten =
      let r = R.runs in
      let B = book_of x in
      let same = sym plan_of_our_rule in
      let T = tried every_beginning (unfold every_beginning in refl) in
      record {
        begins_as_board = r.as_board;
        begins_with_such = ap such_racks r.as_board ∙ such_begun x.first r.first_sound;
        plan = subst (IsSchedule B) same (made_schedule (setting d every_beginning) B T our_rule d);
        totals = λ p P k h. subst (λ (o : Schedule). total B p k ≤ total B o k) same (ours_most (setting d every_beginning) B T k (omega arith) p P);
        by_grade = λ begins e j h r l u n k i.
            subst (λ (o : Schedule). count_of d u B (made_by r d B) k ≤ count_of d u B o k) same
            (ours_at_least (setting d begins) B (tried begins e) k (omega arith) j h r l u n);
      }

pub demand3 : Demand3
unfolding Demand3
demand3 b s empty cs x m = unbeaten b.depth x (every_stretch b s empty cs x m)

-- Board and book still agree after an admitting that the rows let through.
use mathlib.Core.Path.{◌≡◌, sym, ap, ap₂, ◌∙◌, subst}
use mathlib.Core.List.{[], ◌∷◌, ◌++◌, Memᴰ}
use Prim.Native.Nat.{ℕ, ◌+◌, ◌-◌, ◌≤◌}
use native.Mathlib.Omega.{arith}
use lib.Dec.{eqb}
use borrow.Author.Tests.{le-leb}
use Rattle.lists.specs.Select.{select}
use Rattle.lists.proofs.Members.{each_more, select_append, select_yes}
use Rattle.lists.proofs.Counting.{count_append}
use Rattle.rule.specs.Job.{Job, job, in_date}
use Rattle.books.specs.Book.{enter, Book, jobs, extend}
use Rattle.board.specs.declared.Board.{Board}
use Rattle.board.specs.Held.{held}
use Rattle.board.specs.Admit.{admit_number, with_job}
use Rattle.board.proofs.Soundness.Facts.{admitted_in}
use Rattle.board.proofs.Calls.SoundAfter.{with_job_sound}
use Rattle.books.proofs.Walks.Extended.{present_entered, highest_entered, jobs_entered}
use Rattle.claims.specs.Calls.{admit}
use Rattle.claims.specs.DayBook.{Day, through}
use Rattle.claims.proofs.Admitted.{taken_rows, held_taken}
use Rattle.claims.proofs.Agreement.Agree.{Agree}

module _ {d s : ℕ} {b : Board} {D : Day} (a : Agree d s b D) (t w g : ℕ) (e : admit_number b t w g ≡ 0) where
  abbrev B : Book
  B = D.book

  new_job : Job
  new_job = job t s w g

  new_held : held (with_job b t w g) ≡ held b ++ (new_job ∷ [])
  unfolding new_job
  new_held = held_taken b t w g a.is_sound e ∙ ap (λ k. held b ++ (job t k w g ∷ [])) a.slot

  new_jobs : jobs (extend B (enter t w g)) ≡ jobs B ++ (new_job ∷ [])
  unfolding new_job
  new_jobs = jobs_entered B t w g ∙ ap (λ k. jobs B ++ (job t k w g ∷ [])) a.book_slot

  -- both count one more in the slot
  counts : admitted_in s (jobs (extend B (enter t w g))) ≡ admitted_in s (held (with_job b t w g))
  counts =
      omega (
        arith,
        ap (admitted_in s) new_jobs,
        ap (admitted_in s) new_held,
        a.same_intake,
        count_append (λ (q : Job). eqb q.admitted s) (jobs B) (new_job ∷ []),
        count_append (λ (q : Job). eqb q.admitted s) (held b) (new_job ∷ []),
      )

  dated : select (in_date s) (new_job ∷ []) ≡ new_job ∷ []
  unfolding in_date new_job job select
  dated = select_yes (in_date s) new_job [] (le-leb s (s + w - 1) (omega (arith, (taken_rows b t w g a.is_sound e).some_laxity)))

  pub agree_admitted : Agree d s (with_job b t w g) (through d D (admit t w g))
  unfolding with_job new_job job through
  agree_admitted =
      record {
        is_sound = with_job_sound b t w g a.is_sound e;
        depth = a.depth;
        slot = a.slot;
        book_slot = present_entered B t w g ∙ a.book_slot;
        same_highest = highest_entered B t w g;
        same_intake = counts;
        begun = λ r m. each_more (λ (q : Job). q.admitted ≤ s) (jobs B) a.begun (omega arith) r (subst (Memᴰ r) new_jobs m);
        on_board =
            new_held
            ∙ ap₂ ◌++◌ a.on_board (sym dated)
            ∙ sym (select_append (in_date s) D.left (new_job ∷ []))
            ∙ ap (λ k. select (in_date s) (D.left ++ (job t k w g ∷ []))) (sym a.book_slot);
      }

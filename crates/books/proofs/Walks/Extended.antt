-- A book with one change more: its slot, its highest ticket and its jobs.
use mathlib.Core.Path.{◌≡◌, refl, sym, ap, ◌∙◌}
use mathlib.Core.List.{List, [], ◌∷◌, ◌++◌, append-nil, append_assoc}
use Prim.Native.Nat.{ℕ, suc}
use native.Mathlib.Omega.{arith}
use Rattle.rule.specs.Job.{job}
use Rattle.books.specs.Book.{Change, enter, end_slot, Book, closings, slots_closed, present, entered, jobs, raised, highest, extend}
use Rattle.books.proofs.Walks.Groups.{closings_append, entered_append}

pub raised_append : (h : ℕ) (es fs : List Change) → raised h (es ++ fs) ≡ raised (raised h es) fs
unfolding raised
raised_append h [] fs = refl
raised_append h (enter t w g ∷ es) fs = raised_append t es fs
raised_append h (end_slot ∷ es) fs = raised_append h es fs

module _ (B : Book) where
  pub present_entered : (t w g : ℕ) → present (extend B (enter t w g)) ≡ present B
  unfolding present slots_closed extend closings
  present_entered t w g = omega (arith, closings_append B.changes (enter t w g ∷ []))

  pub present_ended : present (extend B end_slot) ≡ suc (present B)
  unfolding present slots_closed extend closings
  present_ended = omega (arith, closings_append B.changes (end_slot ∷ []))

  pub highest_entered : (t w g : ℕ) → highest (extend B (enter t w g)) ≡ t
  unfolding highest extend raised
  highest_entered t w g = raised_append B.beginning.highest B.changes (enter t w g ∷ [])

  pub highest_ended : highest (extend B end_slot) ≡ highest B
  unfolding highest extend raised
  highest_ended = raised_append B.beginning.highest B.changes (end_slot ∷ [])

  pub jobs_entered : (t w g : ℕ) → jobs (extend B (enter t w g)) ≡ jobs B ++ (job t (present B) w g ∷ [])
  unfolding jobs extend entered present slots_closed
  jobs_entered t w g =
      ap (B.beginning.jobs ++◌) (entered_append B.beginning.slot B.changes (enter t w g ∷ []))
      ∙ sym (append_assoc B.beginning.jobs (entered B.beginning.slot B.changes) (job t (present B) w g ∷ []))

  pub jobs_ended : jobs (extend B end_slot) ≡ jobs B
  unfolding jobs extend entered
  jobs_ended =
      ap (B.beginning.jobs ++◌) (entered_append B.beginning.slot B.changes (end_slot ∷ []) ∙ append-nil (entered B.beginning.slot B.changes))

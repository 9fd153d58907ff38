-- The line that is refused, by the case that the code is in.
use mathlib.Core.Path.{◌≡◌, refl, sym, ap, ◌∙◌}
use mathlib.Core.Bool.{cond}
use mathlib.Core.Option.{none, some}
use Prim.Native.Nat.{ℕ, zero, suc, ◌+◌}
use borrow.Author.Tests.{ne_eqb}
use Rattle.matching.specs.declared.Jobs.{Jobs}
use Rattle.matching.specs.Windows.{most_jobs, is_window, windows_of}
use Rattle.worklist.specs.Inner.Collecting.{passing, refused_by_call}

module _ (n : ℕ) (d : Jobs) where
  pub found_none : n ≡ 0 → none ≡ refused_by_call n d
  unfolding refused_by_call
  found_none e = sym (ap (λ k. refused_by_call k d) e)

  pub found_many : n ≡ 18 → some (record { line = most_jobs + 1; number = n }) ≡ refused_by_call n d
  unfolding refused_by_call
  found_many e = rw e refl

  pub found_slot : (n ≡ 0 → ⊥) → (n ≡ 18 → ⊥) → (k : ℕ) → k ≡ passing is_window (windows_of d)
      → some (record { line = k + 1; number = n }) ≡ refused_by_call n d
  unfolding refused_by_call
  found_slot h f k e = ap (λ k. some (record { line = k + 1; number = n })) e ∙ sym (go n h f)
    where
      go : (m : ℕ) → (m ≡ 0 → ⊥) → (m ≡ 18 → ⊥) → refused_by_call m d ≡ some (record { line = passing is_window (windows_of d) + 1; number = m })
      go zero h f = absurd (h refl)
      go (suc m) h f = ap (λ b. some (record { line = cond b (suc most_jobs) (passing is_window (windows_of d) + 1); number = suc m })) (ne_eqb (suc m) 18 f)

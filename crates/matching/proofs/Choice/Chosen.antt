-- The chosen jobs: they fit, and a job left out has its window in slots that are full without it.
use mathlib.Core.Path.{◌≡◌, sym, ap, ◌∙◌}
use mathlib.Core.Bool.{true, false}
use mathlib.Core.Logic.{◌⊎◌, inl, inr}
use mathlib.Core.List.{List}
use Prim.Native.Nat.{ℕ, zero, suc, ◌≤◌, ◌<◌}
use native.Mathlib.Omega.{arith}
use lib.ListN.{length, set, length-set, length-replicate}
use Rattle.lists.specs.Select.{every}
use Rattle.lists.proofs.Tests.{test, never}
use Rattle.matching.specs.declared.Window.{Window}
use Rattle.matching.specs.Windows.{most_jobs, is_window}
use Rattle.matching.specs.Choice.{is_in, all_fit, chosen_to}
use Rattle.matching.proofs.Below.Counting.{last_or}
use Rattle.matching.proofs.Choice.Sets.{none_in, set_in, set_out_of, taken_in}
use Rattle.matching.proofs.Choice.Fits.{crowd_mono, crowd_none, fits_if, hall}

module _ (ws : List Window) where
  pub chosen_length : (n : ℕ) → length (chosen_to ws n) ≡ most_jobs
  unfolding chosen_to
  chosen_length zero = length-replicate most_jobs false
  chosen_length (suc n) = length-set (chosen_to ws n) n (all_fit ws (set (chosen_to ws n) n true)) ∙ chosen_length n

  -- nothing is chosen before its turn, and nothing changes after it
  pub chosen_late : (n i : ℕ) → n ≤ i → is_in (chosen_to ws n) i ≡ false
  unfolding chosen_to
  chosen_late zero i h = none_in most_jobs i
  chosen_late (suc n) i h = set_out_of (chosen_to ws n) n (all_fit ws (set (chosen_to ws n) n true)) i (λ e. omega arith) ∙ chosen_late n i (omega arith)

  pub chosen_early : (n m i : ℕ) → i < m → m ≤ n → is_in (chosen_to ws n) i ≡ is_in (chosen_to ws m) i
  unfolding chosen_to
  chosen_early zero m i h k = absurd (omega arith)
  chosen_early (suc n) m i h k = go (last_or m (suc n) k) (λ l. chosen_early n m i h l)
    where
      go : (m ≡ suc n) ⊎ (m < suc n) → (m ≤ n → is_in (chosen_to ws n) i ≡ is_in (chosen_to ws m) i)
          → is_in (set (chosen_to ws n) n (all_fit ws (set (chosen_to ws n) n true))) i ≡ is_in (chosen_to ws m) i
      go (inl e) f = sym (ap (λ x. is_in (chosen_to ws x) i) e)
      go (inr l) f = set_out_of (chosen_to ws n) n (all_fit ws (set (chosen_to ws n) n true)) i (λ e. omega arith) ∙ f (omega arith)

  pub chosen_turn : (n : ℕ) → n < most_jobs → is_in (chosen_to ws (suc n)) n ≡ all_fit ws (set (chosen_to ws n) n true)
  unfolding chosen_to
  chosen_turn n h = set_in (chosen_to ws n) n (all_fit ws (set (chosen_to ws n) n true)) (omega (arith, chosen_length n))

  module _ (ok : every is_window ws ≡ true) where
    pub chosen_fits : (n : ℕ) → all_fit ws (chosen_to ws n) ≡ true
    unfolding chosen_to
    chosen_fits zero = fits_if ws (chosen_to ws 0) (λ a b. omega (arith, crowd_none ws (chosen_to ws 0) a b (λ i h e k. never e (none_in most_jobs i))))
    chosen_fits (suc n) = go (test (all_fit ws (set (chosen_to ws n) n true))) (chosen_fits n)
      where
        go : (all_fit ws (set (chosen_to ws n) n true) ≡ true) ⊎ (all_fit ws (set (chosen_to ws n) n true) ≡ false)
            → all_fit ws (chosen_to ws n) ≡ true
            → all_fit ws (set (chosen_to ws n) n (all_fit ws (set (chosen_to ws n) n true))) ≡ true
        go (inl e) f = ap (λ v. all_fit ws (set (chosen_to ws n) n v)) e ∙ e
        go (inr e) f =
            ap (λ v. all_fit ws (set (chosen_to ws n) n v)) e
            ∙ fits_if ws (set (chosen_to ws n) n false) (λ a b. omega (
              arith,
              hall ws (chosen_to ws n) ok f a b,
              crowd_mono ws (set (chosen_to ws n) n false) (chosen_to ws n) a b a b (λ i h y z. (taken_in (chosen_to ws n) n i y, z)),
            ))

-- The steps of the layout, as the code takes them.
use mathlib.Core.Path.{◌≡◌, refl, sym, ap, ◌∙◌}
use mathlib.Core.Bool.{Bool, true, false, cond, ◌&&◌, ◌||◌}
use mathlib.Core.Logic.{◌⊎◌, inl, inr}
use mathlib.Core.List.{List}
use Prim.Native.Nat.{ℕ, zero, suc, ◌+◌, ◌-◌, ◌≤◌, ◌<◌}
use native.Mathlib.Omega.{arith}
use native.Mathlib.Numerals.{add-one}
use mathlib.Core.Bool.{and-false}
use lib.Dec.{eqb, ltb}
use lib.ListN.{length, get_or, set}
use borrow.Author.Tests.{eq-eqb, ne_eqb, le-leb, lt-leb}
use Rattle.std.specs.Prelude.{Option, Some, None}
use Rattle.lists.proofs.Tests.{test, never}
use Rattle.matching.specs.declared.Window.{Window}
use Rattle.matching.specs.declared.Laid.{Laid}
use Rattle.matching.specs.Windows.{most_jobs, first_of, last_of}
use Rattle.matching.specs.Choice.{is_in}
use Rattle.matching.specs.Layout.{no_job, has_come, sooner, next_to, give, laid_to}
use Rattle.matching.specs.Hindsight.{NoneNext, IsNext}
use Rattle.matching.proofs.Laying.Next.{next_found}
use Rattle.hindsight.specs.Inner.Layout.{job_of, beats}
use Rattle.hindsight.proofs.Searching.Listed.{blank, last_there}

-- the job of a number that is not `no_job`
pub job_is : (q i : ℕ) → Some i ≡ job_of q → (q ≡ i) × (eqb q no_job ≡ false)
job_is q i e = go (test (eqb q no_job))
  where
    go : (eqb q no_job ≡ true) ⊎ (eqb q no_job ≡ false) → (q ≡ i) × (eqb q no_job ≡ false)
    go (inl y) = let h = rw y at e in cc
    go (inr y) = let h = rw y at e in let z : q ≡ i = cc in (z, y)

module _ (ws : List Window) (few : length ws ≤ most_jobs) (w : List Bool) (slot : ℕ) where
  -- the job is one of those looked at
  pub job_small : (n i : ℕ) → n ≤ length ws → Some i ≡ job_of (next_to ws w slot n) → i < n
  job_small n i h e = go (job_is (next_to ws w slot n) i e) (next_found ws w slot n (omega arith))
    where
      go : (next_to ws w slot n ≡ i) × (eqb (next_to ws w slot n) no_job ≡ false) → NoneNext ws w slot n (next_to ws w slot n) ⊎ IsNext ws w slot n (next_to ws w slot n) → i < n
      go z (inl t) = never (eq-eqb _ _ t.is_none) z.1
      go z (inr t) = omega (arith, t.below, z.0)

  module _ (i : ℕ) (best : Option ℕ) (e : best ≡ job_of (next_to ws w slot i)) where
    -- the test of a job: it has come, and is better than the best so far
    abbrev better : Bool
    better = has_come ws w slot i && beats ws (get_or ws i blank) best

    same_test : beats ws (get_or ws i blank) best ≡ (eqb (next_to ws w slot i) no_job || ltb (last_of ws i) (last_of ws (next_to ws w slot i)))
    same_test = ap (beats ws (get_or ws i blank)) e ∙ go (test (eqb (next_to ws w slot i) no_job))
      where
        go : (eqb (next_to ws w slot i) no_job ≡ true) ⊎ (eqb (next_to ws w slot i) no_job ≡ false)
            → beats ws (get_or ws i blank) (job_of (next_to ws w slot i)) ≡ (eqb (next_to ws w slot i) no_job || ltb (last_of ws i) (last_of ws (next_to ws w slot i)))
        go (inl y) = rw y refl
        go (inr y) = rw (y, last_there ws i) refl

    next_is : next_to ws w slot (i + 1) ≡ cond better i (next_to ws w slot i)
    unfolding next_to sooner
    next_is = rw add-one (ap (λ b. cond (has_come ws w slot i && b) i (next_to ws w slot i)) (sym same_test))

    pub next_better : i < length ws → is_in w i ≡ true → first_of ws i ≤ slot → beats ws (get_or ws i blank) best ≡ true → Some i ≡ job_of (next_to ws w slot (i + 1))
    unfolding has_come
    next_better h x y z = rw (next_is, x, le-leb (first_of ws i) slot y, z, ne_eqb i no_job (λ z. omega arith)) refl

    pub next_not_waiting : is_in w i ≡ false → best ≡ job_of (next_to ws w slot (i + 1))
    unfolding has_come
    next_not_waiting x = rw (next_is, x) e

    pub next_not_come : slot < first_of ws i → best ≡ job_of (next_to ws w slot (i + 1))
    unfolding has_come
    next_not_come x = rw (next_is, lt-leb (first_of ws i) slot x, and-false (is_in w i)) e

    pub next_not_better : beats ws (get_or ws i blank) best ≡ false → best ≡ job_of (next_to ws w slot (i + 1))
    next_not_better x = rw (next_is, x, and-false (has_come ws w slot i)) e

-- the slot is given to the job, or to none
module _ (ws : List Window) (c : List Bool) (s : ℕ) (h : 1 ≤ s) (l : Laid) (e : l ≡ laid_to ws c (s - 1)) where
  last_step : laid_to ws c (s + 1 - 1) ≡ give s (next_to ws l.waiting s (length ws)) l
  unfolding laid_to
  last_step = rw e (go s h)
    where
      go : (s : ℕ) → 1 ≤ s → laid_to ws c (s + 1 - 1) ≡ give s (next_to ws (laid_to ws c (s - 1)).waiting s (length ws)) (laid_to ws c (s - 1))
      go zero h = absurd (omega arith)
      go (suc s) h = let a : suc s + 1 - 1 ≡ suc s = omega arith in let b : suc s - 1 ≡ s = omega arith in rw (a, b) refl

  pub laid_job : (i : ℕ) → Some i ≡ job_of (next_to ws l.waiting s (length ws)) → record { waiting = set l.waiting i false; slots = set l.slots i s } ≡ laid_to ws c (s + 1 - 1)
  unfolding give
  laid_job i y = let z = job_is _ i y in rw (last_step, z.1, z.0) refl

  pub laid_none : None ≡ job_of (next_to ws l.waiting s (length ws)) → l ≡ laid_to ws c (s + 1 - 1)
  unfolding give
  laid_none y = go (test (eqb (next_to ws l.waiting s (length ws)) no_job))
    where
      go : (eqb (next_to ws l.waiting s (length ws)) no_job ≡ true) ⊎ (eqb (next_to ws l.waiting s (length ws)) no_job ≡ false) → l ≡ laid_to ws c (s + 1 - 1)
      go (inl z) = rw (last_step, z) refl
      go (inr z) = let x = rw z at y in cc

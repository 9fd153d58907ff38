-- Jobs with slots of their windows, no two with the same, fit.
use mathlib.Core.Path.{◌≡◌}
use mathlib.Core.Bool.{Bool, true, ◌&&◌}
use mathlib.Core.List.{List}
use Prim.Native.Nat.{ℕ, suc, ◌≤◌, ◌<◌}
use native.Mathlib.Omega.{arith}
use lib.ListN.{length}
use Rattle.lists.specs.Select.{every}
use Rattle.lists.proofs.Tests.{and_left, and_right}
use Rattle.matching.specs.declared.Window.{Window}
use Rattle.matching.specs.Below.{count_below}
use Rattle.matching.specs.Windows.{slot_count, first_of, last_of, inside, is_window}
use Rattle.matching.specs.Choice.{is_in, count_within, all_fit}
use Rattle.matching.proofs.Below.Pigeonhole.{pigeonhole}
use Rattle.matching.proofs.Below.Interval.{between, between_yes, count_between}
use Rattle.matching.proofs.Windows.{window_at, inside_from, inside_to}
use Rattle.matching.proofs.Choice.Fits.{fits_if}

-- σ gives the jobs of c slots of their windows, no two the same
pub record Assigned (ws : List Window) (c : List Bool) (σ : ℕ → ℕ) : Type 0 where
  pub from_first : (i : ℕ) → i < length ws → is_in c i ≡ true → first_of ws i ≤ σ i
  pub to_last : (i : ℕ) → i < length ws → is_in c i ≡ true → σ i ≤ last_of ws i
  pub apart : (i j : ℕ) → i < length ws → j < length ws → is_in c i ≡ true → is_in c j ≡ true → σ i ≡ σ j → i ≡ j

pub assigned_fits : (ws : List Window) → every is_window ws ≡ true → (c : List Bool) (σ : ℕ → ℕ) → Assigned ws c σ → all_fit ws c ≡ true
unfolding count_within
assigned_fits ws ok c σ s = fits_if ws c (λ a b. omega (arith, few a b, count_between a b (suc slot_count)))
  where
    few : (a b : ℕ) → count_within ws c a b ≤ count_below (between a b) (suc slot_count)
    few a b =
        pigeonhole (λ i. is_in c i && inside ws a b i) (between a b) σ (length ws) (suc slot_count)
        (λ i h e.
        let y = and_left (is_in c i) (inside ws a b i) e in
        let z = and_right (is_in c i) (inside ws a b i) e in
        let f = s.from_first i h y in
        let t = s.to_last i h y in
        let w = window_at ws ok i h in
        (omega (arith, w.to_end), between_yes a b (σ i) (omega (arith, inside_from ws a b i z)) (omega (arith, inside_to ws a b i z))))
        (λ i j h k e f. s.apart i j h k (and_left (is_in c i) (inside ws a b i) e) (and_left (is_in c j) (inside ws a b j) f))

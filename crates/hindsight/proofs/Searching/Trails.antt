-- A slot visited, and a slot given to a holder.
use mathlib.Core.Path.{◌≡◌, refl, sym, ap, ◌∙◌}
use mathlib.Core.Bool.{Bool, true, false, not}
use mathlib.Core.Logic.{◌⊎◌, inl, inr}
use mathlib.Core.List.{List, [], ◌∷◌}
use Prim.Native.Nat.{ℕ, zero, suc, ◌+◌, ◌≤◌, ◌<◌}
use native.Mathlib.Omega.{arith}
use Rattle.std.specs.Prelude.{Some, None}
use lib.Dec.{eqb}
use lib.ListN.{length, get_or, set, length-set}
use lib.Seq.{get_or-set_same, get_or-set_other}
use borrow.Author.Tests.{not-true}
use Rattle.lists.specs.Select.{one_if}
use Rattle.lists.proofs.Tests.{test, never}
use Rattle.matching.specs.declared.Window.{Window}
use Rattle.matching.specs.Windows.{slot_count}
use Rattle.matching.proofs.Below.Counting.{same_or_not, count_mono, count_change}
use Rattle.matching.proofs.Below.Pigeonhole.{without, without_other, count_without}
use Rattle.hindsight.specs.declared.search.Trail.{Trail}
use Rattle.hindsight.specs.Inner.Search.{visited_at, holder_number, holder, unvisited, slots_held, Fitting}

-- more slots visited, fewer unvisited
pub unvisited_falls : (s t : Trail) → ((k : ℕ) → visited_at s k ≡ true → visited_at t k ≡ true) → unvisited t ≤ unvisited s
unfolding unvisited
unvisited_falls s t grows = count_mono (λ k. not (visited_at t k)) (λ k. not (visited_at s k)) slot_count (λ k h e. go k e (test (visited_at s k)))
  where
    go : (k : ℕ) → not (visited_at t k) ≡ true → (visited_at s k ≡ true) ⊎ (visited_at s k ≡ false) → not (visited_at s k) ≡ true
    go k e (inl y) = never (grows k y) (not-true (visited_at t k) e)
    go k e (inr y) = ap not y

-- the slot `at` visited
abbrev pub visit_at : Trail → ℕ → Trail
visit_at t at = record { visited = set t.visited at true; holders = t.holders }

grown : (v : List Bool) (at k : ℕ) → get_or v k false ≡ true → get_or (set v at true) k false ≡ true
grown [] at k e = e
grown (x ∷ v) zero zero e = refl
grown (x ∷ v) zero (suc k) e = e
grown (x ∷ v) (suc at) zero e = e
grown (x ∷ v) (suc at) (suc k) e = grown v at k e

module _ (t : Trail) (at : ℕ) where
  pub visit_grows : (k : ℕ) → visited_at t k ≡ true → visited_at (visit_at t at) k ≡ true
  unfolding visited_at
  visit_grows k e = grown t.visited at k e

  pub visit_seen : at < length t.visited → visited_at (visit_at t at) at ≡ true
  unfolding visited_at
  visit_seen h = get_or-set_same t.visited at true false h

  pub visit_back : (k : ℕ) → (k ≡ at → ⊥) → visited_at (visit_at t at) k ≡ visited_at t k
  unfolding visited_at
  visit_back k n = get_or-set_other t.visited at k true false n

  pub visit_holder : (k : ℕ) → holder (visit_at t at) k ≡ holder t k
  unfolding holder
  visit_holder k = refl

  pub visit_held : (h : ℕ) → slots_held (visit_at t at) h ≡ slots_held t h
  unfolding slots_held holder
  visit_held h = refl

  pub visit_fitting : (ws : List Window) → Fitting ws t → Fitting ws (visit_at t at)
  unfolding holder
  visit_fitting ws f = record { visited_all = length-set t.visited at true ∙ f.visited_all; holders_all = f.holders_all; held = f.held }

  -- an unvisited slot visited: one unvisited slot fewer
  pub visit_falls : at < slot_count → visited_at t at ≡ false → at < length t.visited → suc (unvisited (visit_at t at)) ≤ unvisited t
  unfolding unvisited
  visit_falls h e l =
      omega (
        arith,
        count_without (λ k. not (visited_at t k)) slot_count at h (ap not e),
        count_mono (λ k. not (visited_at (visit_at t at) k)) (without (λ k. not (visited_at t k)) at) slot_count (λ k y z. go k z (same_or_not k at)),
      )
    where
      go : (k : ℕ) → not (visited_at (visit_at t at) k) ≡ true → (k ≡ at) ⊎ (k ≡ at → ⊥) → without (λ k. not (visited_at t k)) at k ≡ true
      go k z (inl n) = never (ap (visited_at (visit_at t at)) n ∙ visit_seen l) (not-true (visited_at (visit_at t at) k) z)
      go k z (inr n) = without_other (λ k. not (visited_at t k)) at k (ap not (sym (visit_back k n)) ∙ z) n

-- the slot `at` given to the job r
abbrev pub take_at : Trail → (at r : ℕ) → Trail
take_at t at r = record { visited = t.visited; holders = set t.holders at (Some r) }

module _ (t : Trail) (at r : ℕ) where
  pub take_seen : (k : ℕ) → visited_at (take_at t at r) k ≡ visited_at t k
  unfolding visited_at
  take_seen k = refl

  pub take_same : at < length t.holders → holder (take_at t at r) at ≡ suc r
  unfolding holder
  take_same l = ap holder_number (get_or-set_same t.holders at (Some r) None l)

  pub take_other : (k : ℕ) → (k ≡ at → ⊥) → holder (take_at t at r) k ≡ holder t k
  unfolding holder
  take_other k n = ap holder_number (get_or-set_other t.holders at k (Some r) None n)

  pub take_held : (x : ℕ) → at < slot_count → at < length t.holders
      → slots_held (take_at t at r) x + one_if (eqb (holder t at) x) ≡ slots_held t x + one_if (eqb (suc r) x)
  unfolding slots_held
  take_held x l m =
      let c = count_change (λ k. eqb (holder (take_at t at r) k) x) (λ k. eqb (holder t k) x) slot_count at l (λ k n. ap (λ y. eqb y x) (take_other k n)) in
      omega (arith, c, ap (λ y. one_if (eqb y x)) (take_same m))

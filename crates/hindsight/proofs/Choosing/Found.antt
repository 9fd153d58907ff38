-- Jobs that hold slots fit.
use mathlib.Core.Path.{◌≡◌, ap}
use mathlib.Core.Bool.{Bool, true}
use mathlib.Core.List.{List}
use Prim.Native.Nat.{ℕ, suc, ◌<◌}
use native.Mathlib.Omega.{arith}
use lib.Dec.{eqb}
use borrow.Author.Tests.{eqb-true}
use Rattle.lists.specs.Select.{one_if}
use Rattle.lists.proofs.Counting.{one_if_yes}
use Rattle.matching.specs.declared.Window.{Window}
use Rattle.matching.specs.Windows.{slot_count}
use Rattle.matching.specs.Choice.{is_in, all_fit}
use Rattle.matching.proofs.Below.Counting.{find, found}
use Rattle.matching.proofs.Choice.Assigned.{Assigned, assigned_fits}
use Rattle.hindsight.specs.declared.search.Trail.{Trail}
use Rattle.hindsight.specs.Inner.Search.{holder, slots_held, Held, Fitting}
use Rattle.hindsight.specs.Inner.Accepted.{Accepted}

module _ (ws : List Window) (a : Accepted ws) (t : Trail) (f : Fitting ws t) (c : List Bool) (once : (r : ℕ) → slots_held t (suc r) ≡ one_if (is_in c r)) where
  -- the place that a job holds
  abbrev holds : (r k : ℕ) → Bool
  holds r k = eqb (holder t k) (suc r)

  abbrev place : ℕ → ℕ
  place r = find (holds r) slot_count

  there : (r : ℕ) → is_in c r ≡ true → (place r < slot_count) × (holder t (place r) ≡ suc r)
  unfolding slots_held
  there r e =
      let p = found (holds r) slot_count (omega (arith, once r, one_if_yes (is_in c r) e)) in
      (p.0, eqb-true (holder t (place r)) (suc r) p.1)

  held : (r : ℕ) → is_in c r ≡ true → Held ws (place r) r
  held r e = f.held (place r) r (there r e).0 (there r e).1

  holders_assigned : Assigned ws c (λ r. suc (place r))
  holders_assigned =
      record {
        from_first = λ r h e. (held r e).from_first;
        to_last = λ r h e. (held r e).to_last;
        apart = λ i j h k e g z. omega (arith, (there i e).1, (there j g).1, ap (holder t) (same (place i) (place j) z));
      }
    where
      same : (m n : ℕ) → suc m ≡ suc n → m ≡ n
      same m n z = omega arith

  pub holders_fit : all_fit ws c ≡ true
  holders_fit = assigned_fits ws a.windows c (λ r. suc (place r)) holders_assigned

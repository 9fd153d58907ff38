-- A slot is found: the job takes it. And what `move_holder` answers.
use mathlib.Core.Path.{◌≡◌, refl, sym, ap, subst, ◌∙◌}
use mathlib.Core.Bool.{Bool, true, false}
use mathlib.Core.List.{List}
use mathlib.Core.Logic.{◌⊎◌, inl, inr}
use Prim.Native.Nat.{ℕ, suc, ◌+◌, ◌<◌}
use native.Mathlib.Omega.{arith}
use Rattle.std.specs.Prelude.{Some}
use lib.Dec.{eqb}
use lib.ListN.{length, length-set}
use borrow.Author.Tests.{ne_eqb}
use Rattle.lists.specs.Select.{one_if}
use Rattle.lists.proofs.Counting.{one_if_no}
use Rattle.lists.proofs.Tests.{never}
use Rattle.matching.specs.declared.Window.{Window}
use Rattle.matching.specs.Windows.{slot_count}
use Rattle.matching.proofs.Below.Counting.{same_or_not}
use Rattle.hindsight.specs.declared.search.Trail.{Trail}
use Rattle.hindsight.specs.Inner.Search.{visited_at, holder, slots_held, Held, Fitting, OneMore, Ready, Sought, ToMove, Moved}
use Rattle.hindsight.proofs.Searching.Trails.{visit_at, visit_grows, visit_seen, visit_holder, visit_held, take_at, take_seen, take_same, take_other, take_held}
use Rattle.hindsight.proofs.Searching.Looking.{Looking, same_holder}

same_held : (s t : Trail) → t.holders ≡ s.holders → (h : ℕ) → slots_held t h ≡ slots_held s h
unfolding slots_held holder
same_held s t e h = ap (λ l. slots_held (record { visited = t.visited; holders = l }) h) e

module _ (ws : List Window) (r : ℕ) (s t : Trail) (at : ℕ) (l : Looking ws r s t at) (h : at < slot_count) (free : visited_at t at ≡ false) (mine : Held ws at r)
    (u : Trail) (m : Moved ws at (visit_at t at) u true) where
  here : visited_at (visit_at t at) at ≡ true
  here = visit_seen t at (omega (arith, l.fitting.visited_all))

  inside : at < length u.holders
  inside = omega (arith, m.kept.fitting.holders_all)

  taken_fitting : Fitting ws (take_at u at r)
  taken_fitting =
      record {
        visited_all = m.kept.fitting.visited_all;
        holders_all = length-set u.holders at (Some r) ∙ m.kept.fitting.holders_all;
        held = λ k x y e. go k x y e (same_or_not k at);
      }
    where
      go : (k x : ℕ) → k < slot_count → holder (take_at u at r) k ≡ suc x → (k ≡ at) ⊎ (k ≡ at → ⊥) → Held ws k x
      go k x y e (inl n) =
          let z : r ≡ x = omega (arith, sym (take_same u at r inside) ∙ sym (ap (holder (take_at u at r)) n) ∙ e) in
          subst (Held ws k) z (subst (λ j. Held ws j r) (sym n) mine)
      go k x y e (inr n) = m.kept.fitting.held k x y (sym (take_other u at r k n) ∙ e)

  taken_keeps : (k : ℕ) → visited_at s k ≡ true → holder (take_at u at r) k ≡ holder s k
  taken_keeps k e = go (same_or_not k at)
    where
      go : (k ≡ at) ⊎ (k ≡ at → ⊥) → holder (take_at u at r) k ≡ holder s k
      go (inl n) = never (sym (ap (visited_at t) n) ∙ l.grows k e) free
      go (inr n) = take_other u at r k n ∙ m.kept.keeps k (visit_grows t at k (l.grows k e)) ∙ visit_holder t at k ∙ same_holder s t l.same k

  taken_more : OneMore (suc r) s (take_at u at r)
  unfolding OneMore
  taken_more x =
      omega (
        arith,
        take_held u at r (suc x) h inside,
        m.one_more refl x,
        visit_held t at (suc x),
        same_held s t l.same (suc x),
        ap (λ y. one_if (eqb y (suc x))) (m.kept.keeps at here),
      )

  pub look_taken : Sought ws r s (take_at u at r) true
  look_taken =
      record {
        kept = record {
          grows = λ k e. take_seen u at r k ∙ m.kept.grows k (visit_grows t at k (l.grows k e));
          keeps = taken_keeps;
          fitting = taken_fitting;
        };
        one_more = λ e. taken_more;
        no_slot = λ e. (cc);
      }

module _ (ws : List Window) (k : ℕ) (s : Trail) (y : ToMove ws k s) where
  -- the slot is free
  pub room_free : holder s k ≡ 0 → Moved ws k s s true
  unfolding OneMore visited_at holder slots_held
  room_free e =
      record {
        kept = record {
          grows = λ j z. z;
          keeps = λ j z. refl;
          fitting = y.fitting;
        };
        one_more = λ z x. omega (arith, one_if_no (eqb (holder s k) (suc x)) (ne_eqb (holder s k) (suc x) (λ w. omega arith)));
        no_move = λ z. (cc);
      }

  pub ready_holder : (r : ℕ) → holder s k ≡ suc r → Ready ws r s
  ready_holder r e = record { job = (y.fitting.held k r y.place e).job; fitting = y.fitting }

  pub room_moved : (r : ℕ) → holder s k ≡ suc r → (t : Trail) (found : Bool) → Sought ws r s t found → Moved ws k s t found
  unfolding OneMore
  room_moved r e t found g =
      record {
        kept = g.kept;
        one_more = λ z x. g.one_more z x ∙ ap (λ h. slots_held s (suc x) + one_if (eqb h (suc x))) (sym e);
        no_move = λ z. record { job = r; holds = e; no_slot = g.no_slot z };
      }

-- What `seek` keeps while it looks: the slots of the window before `at` are visited, and every slot newly visited is stuck.
use mathlib.Core.Path.{◌≡◌, refl, sym, ap, ◌∙◌}
use mathlib.Core.Bool.{true, false}
use mathlib.Core.Logic.{◌⊎◌, inl, inr}
use mathlib.Core.List.{List}
use Prim.Native.Nat.{ℕ, suc, ◌+◌, ◌-◌, ◌≤◌, ◌<◌}
use native.Mathlib.Omega.{arith}
use Rattle.std.specs.Prelude.{None}
use lib.ListN.{get_or}
use Rattle.matching.specs.declared.Window.{Window}
use Rattle.matching.specs.Windows.{slot_count, first_of, last_of}
use Rattle.matching.proofs.Below.Counting.{same_or_not, last_or}
use Rattle.hindsight.specs.declared.search.Trail.{Trail}
use Rattle.hindsight.specs.Inner.Search.{visited_at, holder_number, holder, Fitting, Searched, Stuck, Ready, Sought, ToMove, NoMove, Moved}
use Rattle.hindsight.proofs.Searching.Trails.{visit_at, visit_grows, visit_seen, visit_back, visit_fitting}

pub record Looking (ws : List Window) (r : ℕ) (s t : Trail) (at : ℕ) : Type 0 where
  pub fitting : Fitting ws t
  pub grows : (k : ℕ) → visited_at s k ≡ true → visited_at t k ≡ true
  pub same : t.holders ≡ s.holders
  pub passed : (k : ℕ) → first_of ws r ≤ suc k → k < at → visited_at t k ≡ true
  pub stuck : (k : ℕ) → k < slot_count → visited_at t k ≡ true → (visited_at s k ≡ true) ⊎ Stuck ws t k

pub same_holder : (s t : Trail) → t.holders ≡ s.holders → (k : ℕ) → holder t k ≡ holder s k
unfolding holder
same_holder s t e k = ap (λ l. holder_number (get_or l k None)) e

module _ (ws : List Window) (r : ℕ) where
  pub look_first : (s : Trail) → Ready ws r s → Looking ws r s s (first_of ws r - 1)
  look_first s y =
      record {
        fitting = y.fitting;
        grows = λ k e. e;
        same = refl;
        passed = λ k h l. absurd (omega arith);
        stuck = λ k h e. inl e;
      }

  module _ (s t : Trail) (at : ℕ) (l : Looking ws r s t at) where
    -- a slot visited before is passed over
    pub look_past : visited_at t at ≡ true → Looking ws r s t (at + 1)
    look_past e =
        record {
          fitting = l.fitting;
          grows = l.grows;
          same = l.same;
          passed = λ k h m. go k h (last_or k at (omega arith));
          stuck = l.stuck;
        }
      where
        go : (k : ℕ) → first_of ws r ≤ suc k → (k ≡ at) ⊎ (k < at) → visited_at t k ≡ true
        go k h (inl n) = ap (visited_at t) n ∙ e
        go k h (inr m) = l.passed k h m

    pub room_there : at < slot_count → ToMove ws at (visit_at t at)
    room_there h = record { place = h; fitting = visit_fitting t at ws l.fitting }

    -- its holder finds no other slot
    pub look_on : at < slot_count → (u : Trail) → Moved ws at (visit_at t at) u false → Looking ws r s u (at + 1)
    unfolding Searched
    look_on h u m =
        record {
          fitting = m.kept.fitting;
          grows = λ k e. grown k (l.grows k e);
          same = n.no_slot.same ∙ l.same;
          passed = λ k y z. past k y (last_or k at (omega arith));
          stuck = λ k y z. held k (n.no_slot.stuck k y z) (same_or_not k at) y;
        }
      where
        n : NoMove ws at (visit_at t at) u
        n = m.no_move refl

        grown : (k : ℕ) → visited_at t k ≡ true → visited_at u k ≡ true
        grown k e = m.kept.grows k (visit_grows t at k e)

        here : visited_at (visit_at t at) at ≡ true
        here = visit_seen t at (omega (arith, l.fitting.visited_all))

        past : (k : ℕ) → first_of ws r ≤ suc k → (k ≡ at) ⊎ (k < at) → visited_at u k ≡ true
        past k y (inl e) = ap (visited_at u) e ∙ m.kept.grows at here
        past k y (inr z) = grown k (l.passed k y z)

        still : (k : ℕ) → (visited_at s k ≡ true) ⊎ Stuck ws t k → (visited_at s k ≡ true) ⊎ Stuck ws u k
        still k (inl e) = inl e
        still k (inr c) = inr (record {
          job = c.job;
          holds = same_holder t u n.no_slot.same k ∙ c.holds;
          searched = λ j y z. grown j (c.searched j y z);
        })

        held : (k : ℕ) → (visited_at (visit_at t at) k ≡ true) ⊎ Stuck ws u k → (k ≡ at) ⊎ (k ≡ at → ⊥) → k < slot_count → (visited_at s k ≡ true) ⊎ Stuck ws u k
        held k (inr c) o y = inr c
        held k (inl e) (inl o) y = inr (record {
          job = n.job;
          holds = same_holder (visit_at t at) u n.no_slot.same k ∙ ap (holder (visit_at t at)) o ∙ n.holds;
          searched = n.no_slot.searched;
        })
        held k (inl e) (inr o) y = still k (l.stuck k y (sym (visit_back t at k o) ∙ e))

    -- the window is searched
    pub look_end : last_of ws r ≤ at → Sought ws r s t false
    unfolding Searched
    look_end h =
        record {
          kept = record { grows = l.grows; keeps = λ k e. same_holder s t l.same k; fitting = l.fitting };
          one_more = λ e. (cc);
          no_slot = λ e. record { same = l.same; searched = λ k y z. l.passed k y (omega arith); stuck = l.stuck };
        }

-- A trap on side b, the side chosen, is a trap with the bit b in front.
use mathlib.Core.Path.{◌≡◌, sym, ap, subst}
use mathlib.Core.Bool.{Bool, true, false, not, false≢true}
use mathlib.Core.List.{List, ◌∷◌, ◌++◌}
use Prim.Native.Nat.{ℕ, suc, ◌≤◌}
use native.Mathlib.Omega.{arith}
use Rattle.heights.proofs.Heights.TightSlot.{TightSlot, tight_unique}
use Rattle.heights.proofs.Sides.Board.{Sides, whole}
use Rattle.heights.proofs.Sides.Tight.{Chosen}
use Rattle.heights.proofs.Trees.Tree.{Tree, total, sides, join_tree}
use Rattle.heights.proofs.Trees.NoRegret.{Down, NoRegret, no_regret_whole}
use Rattle.heights.proofs.Trees.Run.{starts_here, Count, Run}
use Rattle.heights.proofs.Trees.Flatten.{zero_bit}
use Rattle.heights.proofs.Items.Item.{part}
use Rattle.heights.proofs.Items.Tree.{tree, slots}
use Rattle.heights.proofs.Items.Lift.{lift_count, arrive, arrive_here, arrive_whole}
use Rattle.heights.proofs.Adversary.Allowed.{Grades, beyond}
use Rattle.heights.proofs.Adversary.Arrivals.{lift_arrivals, lift_all, lift_length, lift_by}
use Rattle.heights.proofs.Adversary.Pinned.{stuffed_start, pinned_start}
use Rattle.heights.proofs.Adversary.Held.{clean_next, Held, down, restrict}
use Rattle.heights.proofs.Adversary.Trap.{Trap, Behind}

chosen_clean : {n l : ℕ} {S : Sides} (b : Bool) → Chosen n l S b → b ≡ true → (S (not b)).at (suc l) ≡ (S (not b)).at n
chosen_clean false c e = absurd (false≢true e)
chosen_clean true c e = c.pick

module _ (ok : Grades) (j d n L K : ℕ) (b : Bool) (S A B : Tree (suc d)) (w v : List Bool) (T : TightSlot n (whole (sides d S)) L) (le : K ≤ L)
    (t : Trap (beyond b ok) j d n K (A b) (B b) w v) where
  -- after a job of side b has left, the stuffing holds the runs there
  held : (i : ℕ) (X : Tree (suc d)) (x : List Bool) → Down d n S X b (NoRegret i d n (S b) (X b) x)
      → Held d (suc n) t.l L b (arrive d b X t.answer.by.first)
  held i X x g =
      let F = t.answer.by.first in
      let o = no_regret_whole (suc i) d n S X (b ∷ x) (unfold NoRegret in g) in
      record {
        pinned =
            pinned_start (part F) (whole (sides d (arrive d b X F))) T o t.date (omega (arith, t.upto)) t.stuffs t.first_by
            (arrive_whole d b X F);
        stuffed = stuffed_start (total d (X b)) (part F) (total d (arrive d b X F b)) t.stuffs t.first_by (arrive_here d b X F);
        clean =
            λ h.
            clean_next d b S X F T.date g.kept
            (subst (λ l. (total d (S (not b))).at n ≡ (total d (S (not b))).at (suc l)) (sym (tight_unique T g.chosen.tight)) (sym (chosen_clean b g.chosen h)));
      }

  on_side : (i : ℕ) (X : Tree (suc d)) (x : List Bool) (c : Count) → Down d n S X b (NoRegret i d n (S b) (X b) x)
      → Run (suc i) (suc d) (suc n) (arrive d b X t.answer.by.first) (slots (suc d) (lift_all b t.answer.by.later)) c
      → Run i d (suc n) (join_tree d (X b) (tree d t.answer.by.first)) (slots d t.answer.by.later) (λ z. c (b ∷ z))
  on_side i X x c g r =
      down b X t.answer.by.first t.answer.by.later
      (restrict i d t.l L (suc n) b t.answer.by.later (arrive d b X t.answer.by.first) c t.later_by (omega (arith, t.few)) (λ q. held i X x g) r)

  pub lifted_trap : Down d n S A b (NoRegret j d n (S b) (A b) w) → Down d n S B b (NoRegret (suc j) d n (S b) (B b) v)
      → Trap ok (suc j) (suc d) n L A B (b ∷ w) (b ∷ v)
  lifted_trap ga gb =
      let x = t.answer in
      record {
        answer =
            record {
              u = b ∷ x.u;
              bits = ap suc x.bits;
              by = lift_arrivals b x.by;
              wins =
                  λ c e p q.
                  omega (
                    arith,
                    starts_here b (x.u ++ zero_bit) w,
                    starts_here b (x.u ++ zero_bit) v,
                    x.wins (λ z. c (b ∷ z)) (λ z. e (b ∷ z)) (on_side j A w c ga p) (on_side (suc j) B v e gb q),
                  );
            };
        l = t.l;
        date = t.date;
        upto = omega (arith, t.upto);
        stuffs = omega (arith, lift_count b x.by.first t.l, t.stuffs);
        first_by = omega (arith, lift_count b x.by.first (suc t.l), t.first_by);
        later_by = lift_by t.l b x.by.later t.later_by;
        few = omega (arith, lift_length b x.by.later, t.few);
      }

pub lifted_behind : (j : ℕ) (b : Bool) (w v : List Bool) → Behind j w v → Behind (suc j) (b ∷ w) (b ∷ v)
lifted_behind j b w v t =
    record {
      u = b ∷ t.u;
      bits = ap suc t.bits;
      less = omega (arith, starts_here b (t.u ++ zero_bit) w, starts_here b (t.u ++ zero_bit) v, t.less);
    }

-- One job is baked now, and a plan for the others follows from the next slot on: together they are a plan, and it gives up no more.
use mathlib.Core.Path.{◌≡◌, refl, sym, ap, ◌∙◌}
use mathlib.Core.Bool.{true, not, cond}
use mathlib.Core.List.{List, Memᴰ}
use Prim.Native.Nat.{ℕ, suc, ◌≤◌}
use native.Mathlib.Omega.{arith}
use native.Mathlib.Decide.{ℕ_discrete}
use lib.Dec.{eqb}
use borrow.Author.Tests.{eq-eqb, ne_eqb}
use Rattle.lists.proofs.Tests.{same_test, cond_true, cond_false}
use Rattle.lists.proofs.Counting.{one_if_no, count_cong}
use Rattle.lists.proofs.Less.{Less, count_less}
use Rattle.rule.specs.Job.{Job}
use Rattle.books.specs.Schedule.{Schedule}
use Rattle.books.specs.Rule.{without}
use Rattle.books.proofs.Walks.Tickets.{rising_above, without_mem}
use Rattle.feasibility.specs.PlanFrom.{PlanFrom, bakes_job, given_up_by}
use Rattle.feasibility.proofs.Plans.{Waiting, Given, plan_given, given_plan}
use Rattle.feasibility.proofs.Slots.{baked_slot, slot_baked}

-- a plan that gives up k jobs at the most
pub record PlanLosing (now : ℕ) (A : List Job) (k : ℕ) : Type 0 where
  pub p : Schedule
  pub plan : PlanFrom now A p
  pub few : given_up_by p now A ≤ k

module _ (now k : ℕ) (A : List Job) (W : Waiting now A) (q : Job) (m : Memᴰ q A) (d : now ≤ q.last) (N : PlanLosing (suc now) (without q.ticket A) k) where
  abbrev p : Schedule
  p s = cond (eqb s now) q.ticket (N.p s)

  at_now : p now ≡ q.ticket
  at_now = cond_true (eqb now now) q.ticket (N.p now) (eq-eqb now now refl)

  later : (s : ℕ) → ¬ (s ≡ now) → p s ≡ N.p s
  later s h = cond_false (eqb s now) q.ticket (N.p s) (ne_eqb s now h)

  -- no later slot is given q
  not_again : (s : ℕ) → N.p s ≡ q.ticket → ⊥
  not_again s e =
      let g = plan_given N.plan s (λ z. omega (arith, rising_above W.rising m)) in
      (without_mem q.ticket A g.mem).1 (g.ticket ∙ e)

  is_plan : PlanFrom now A p
  is_plan = given_plan now A p W (λ s h. given s h (ℕ_discrete s now)) (λ s t h e. once s t h e (ℕ_discrete s now) (ℕ_discrete t now))
    where
      given : (s : ℕ) → ¬ (p s ≡ 0) → Dec (s ≡ now) → Given A p s × (now ≤ s)
      given s h (yes e) = (record { r = q; mem = m; ticket = sym (ap p e ∙ at_now); upto = omega arith }, omega arith)
      given s h (no e) =
          let l = later s e in
          let z : ¬ (N.p s ≡ 0) = λ i. h (l ∙ i) in
          let g = plan_given N.plan s z in (
            record { r = g.r; mem = (without_mem q.ticket A g.mem).0; ticket = g.ticket ∙ sym l; upto = g.upto },
            omega (arith, N.plan.start s z),
          )

      once : (s t : ℕ) → ¬ (p s ≡ 0) → p s ≡ p t → Dec (s ≡ now) → Dec (t ≡ now) → s ≡ t
      once s t h e (yes a) (yes b) = a ∙ sym b
      once s t h e (yes a) (no b) = absurd (not_again t (sym (later t b) ∙ sym e ∙ ap p a ∙ at_now))
      once s t h e (no a) (yes b) = absurd (not_again s (sym (later s a) ∙ e ∙ ap p b ∙ at_now))
      once s t h e (no a) (no b) = N.plan.plan.once s t (λ z. h (later s a ∙ z)) (sym (later s a) ∙ e ∙ later t b)

  -- the others are baked as in that plan
  others : (x : Job) → Memᴰ x (without q.ticket A) → bakes_job p now x ≡ bakes_job N.p (suc now) x
  others x i = same_test (bakes_job p now x) (bakes_job N.p (suc now) x) to fro
    where
      to : bakes_job p now x ≡ true → bakes_job N.p (suc now) x ≡ true
      to e =
          let j = baked_slot p now x e in
          let n : ¬ (j.0 ≡ now) = λ z. (without_mem q.ticket A i).1 (sym j.3 ∙ ap p z ∙ at_now) in
          slot_baked N.p (suc now) x j.0 (omega (arith, j.1, n)) j.2 (sym (later j.0 n) ∙ j.3)

      fro : bakes_job N.p (suc now) x ≡ true → bakes_job p now x ≡ true
      fro e =
          let j = baked_slot N.p (suc now) x e in
          slot_baked p now x j.0 (omega (arith, j.1)) j.2 (later j.0 (λ z. omega (arith, j.1)) ∙ j.3)

  pub bake_now : Less q A (without q.ticket A) → PlanLosing now A k
  unfolding given_up_by
  bake_now L =
      record {
        p = p;
        plan = is_plan;
        few =
            omega (
              arith,
              N.few,
              count_less (λ (r : Job). not (bakes_job p now r)) L,
              one_if_no (not (bakes_job p now q)) (ap not (slot_baked p now q now (omega arith) d at_now)),
              count_cong (λ (r : Job). not (bakes_job p now r)) (λ (r : Job). not (bakes_job N.p (suc now) r)) (without q.ticket A)
                  (λ x i. ap not (others x i)),
            );
      }

-- The slots that a ticket is given; a plan from now on bakes a job exactly when it gives it some slot.
use mathlib.Core.Path.{◌≡◌, refl, ap, ◌∙◌}
use mathlib.Core.Bool.{true}
use mathlib.Core.Logic.{⊎_elim}
use mathlib.Core.List.{List, Memᴰ}
use Prim.Native.Nat.{ℕ, zero, suc, ◌+◌, ◌≤◌, ◌<◌}
use native.Mathlib.Omega.{arith}
use lib.Dec.{eqb}
use borrow.Author.Tests.{eqb-true, eq-eqb}
use Rattle.lists.proofs.Tests.{cmp, never, or_cases, or_left, or_right}
use Rattle.rule.specs.Job.{Job, laxity}
use Rattle.books.specs.Schedule.{Schedule}
use Rattle.books.proofs.Walks.Tickets.{rising_above, one_job}
use Rattle.feasibility.specs.PlanFrom.{PlanFrom, gives_slot, bakes_job, BakedSomewhere}
use Rattle.feasibility.proofs.Plans.{Waiting, waiting_true, plan_given}

pub gives_slot_true : (p : Schedule) (s k t : ℕ) → gives_slot p s k t ≡ true → (j : ℕ) × (s ≤ j) × (j < s + k) × (p j ≡ t)
unfolding gives_slot
gives_slot_true p s zero t h = never h refl
gives_slot_true p s (suc k) t h =
    ⊎_elim
    {C = (j : ℕ) × (s ≤ j) × (j < s + suc k) × (p j ≡ t)}
    (λ e. (s, omega arith, omega arith, eqb-true (p s) t e))
    (λ e. let j = gives_slot_true p (suc s) k t e in (j.0, omega (arith, j.1), omega (arith, j.2), j.3))
    (or_cases (eqb (p s) t) (gives_slot p (suc s) k t) h)

pub slot_gives : (p : Schedule) (s k t j : ℕ) → s ≤ j → j < s + k → p j ≡ t → gives_slot p s k t ≡ true
unfolding gives_slot
slot_gives p s zero t j a b e = absurd (omega arith)
slot_gives p s (suc k) t j a b e =
    ⊎_elim
    (λ (c : suc s ≤ j). or_right (eqb (p s) t) (gives_slot p (suc s) k t) (slot_gives p (suc s) k t j c (omega arith) e))
    (λ (c : j < suc s).
    let q : s ≡ j = omega arith in
    or_left (eqb (p s) t) (gives_slot p (suc s) k t) (eq-eqb (p s) t (ap p q ∙ e)))
    (cmp (suc s) j)

-- the slot in which a job is baked
pub baked_slot : (p : Schedule) (now : ℕ) (r : Job) → bakes_job p now r ≡ true → (j : ℕ) × (now ≤ j) × (j ≤ r.last) × (p j ≡ r.ticket)
unfolding bakes_job laxity
baked_slot p now r h =
    let j = gives_slot_true p now _ r.ticket h in (j.0, j.1, omega (arith, j.1, j.2), j.3)

pub slot_baked : (p : Schedule) (now : ℕ) (r : Job) (j : ℕ) → now ≤ j → j ≤ r.last → p j ≡ r.ticket → bakes_job p now r ≡ true
unfolding bakes_job laxity
slot_baked p now r j a b e = slot_gives p now _ r.ticket j a (omega arith) e

-- what `bakes_job` says of a plan: some slot is given the job
pub bakes_job_is : {now : ℕ} {A : List Job} {p : Schedule} → Waiting now A → PlanFrom now A p → (r : Job) → Memᴰ r A
    → (bakes_job p now r ≡ true → (s : ℕ) × (p s ≡ r.ticket)) × ((s : ℕ) → p s ≡ r.ticket → bakes_job p now r ≡ true)
bakes_job_is {now} {A} {p} W P r m = (λ h. let j = baked_slot p now r h in (j.0, j.3), back)
  where
    back : (s : ℕ) → p s ≡ r.ticket → bakes_job p now r ≡ true
    back s e =
        let some : ¬ (p s ≡ 0) = λ z. omega (arith, rising_above W.rising m) in
        let g = plan_given P s some in
        let same = one_job W.rising g.mem m (g.ticket ∙ e) in
        slot_baked p now r s (P.start s some) (omega (arith, g.upto, ap (λ (x : Job). x.last) same)) e

pub baked_somewhere : BakedSomewhere
unfolding BakedSomewhere
baked_somewhere now A h p P r m = bakes_job_is (waiting_true now A h) P r m

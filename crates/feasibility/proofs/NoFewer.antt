-- No plan gives up fewer: l slots bake l jobs at the most, so of the jobs with laxity l or less all others are given up.
use mathlib.Core.Path.{◌≡◌, refl, ap}
use mathlib.Core.Bool.{true, false, not, ◌||◌}
use mathlib.Core.Logic.{◌⊎◌, inl, inr}
use mathlib.Core.List.{List, [], ◌∷◌}
use Prim.Native.Nat.{ℕ, zero, suc, ◌+◌, ◌≤◌}
use native.Mathlib.Omega.{arith}
use lib.Dec.{leb, eqb}
use borrow.Author.Tests.{leb-true, eqb-true, ne_eqb}
use Rattle.lists.specs.Select.{one_if, how_many}
use Rattle.lists.proofs.Tests.{test, or_cases}
use Rattle.lists.proofs.Counting.{one_if_most, one_if_no, count_none, count_cover}
use Rattle.rule.specs.Job.{Job, laxity}
use Rattle.rule.proofs.Tight.Excess.{up_to}
use Rattle.books.specs.Schedule.{Schedule}
use Rattle.books.proofs.Walks.Tickets.{Rising, rising_tail, rising_above}
use Rattle.feasibility.specs.PlanFrom.{gives_slot, bakes_job, given_up_by}
use Rattle.feasibility.proofs.Slots.{baked_slot, slot_gives}

-- a ticket names one job at the most
one_ticket : {m : ℕ} (t : ℕ) (A : List Job) → Rising m A → how_many (λ (r : Job). eqb t r.ticket) A ≤ 1
unfolding how_many
one_ticket t [] h = omega arith
one_ticket t (q ∷ A) h = go (test (eqb t q.ticket)) (one_ticket t A (rising_tail h))
  where
    go : (eqb t q.ticket ≡ true) ⊎ (eqb t q.ticket ≡ false) → how_many (λ (r : Job). eqb t r.ticket) A ≤ 1
        → one_if (eqb t q.ticket) + how_many (λ (r : Job). eqb t r.ticket) A ≤ 1
    go (inr e) k = omega (arith, one_if_no (eqb t q.ticket) e)
    go (inl e) k =
        let same = eqb-true t q.ticket e in
        omega (
          arith,
          one_if_most (eqb t q.ticket),
          count_none (λ (r : Job). eqb t r.ticket) A
              (λ x i. ne_eqb t x.ticket (λ z. omega (arith, rising_above (rising_tail h) i))),
        )

-- k slots are given k jobs at the most
slots_few : {m : ℕ} (p : Schedule) (s k : ℕ) (A : List Job) → Rising m A → how_many (λ (r : Job). gives_slot p s k r.ticket) A ≤ k
unfolding gives_slot
slots_few p s zero A h = omega (arith, count_none (λ (r : Job). false) A (λ x m. refl))
slots_few p s (suc k) A h =
    omega (
      arith,
      one_ticket (p s) A h,
      slots_few p (suc s) k A h,
      count_cover (λ (r : Job). eqb (p s) r.ticket) (λ (r : Job). gives_slot p (suc s) k r.ticket)
          (λ (r : Job). eqb (p s) r.ticket || gives_slot p (suc s) k r.ticket) A
          (λ x m e. or_cases (eqb (p s) x.ticket) (gives_slot p (suc s) k x.ticket) e),
    )

pub no_fewer_at : {m : ℕ} (p : Schedule) (now : ℕ) (A : List Job) → Rising m A → (l : ℕ) → up_to now A l ≤ l + given_up_by p now A
unfolding given_up_by
no_fewer_at p now A h l =
    omega (
      arith,
      slots_few p now l A h,
      count_cover (λ (r : Job). gives_slot p now l r.ticket) (λ (r : Job). not (bakes_job p now r)) (λ (r : Job). leb (laxity now r) l) A
          (λ x m e. go x (leb-true (laxity now x) l e) (test (bakes_job p now x))),
    )
  where
    go : (x : Job) → laxity now x ≤ l → (bakes_job p now x ≡ true) ⊎ (bakes_job p now x ≡ false)
        → (gives_slot p now l x.ticket ≡ true) ⊎ (not (bakes_job p now x) ≡ true)
    go x k (inr e) = inr (ap not e)
    go x k (inl e) =
        let j = baked_slot p now x e in
        inl (slot_gives p now l x.ticket j.0 j.1 (unfold laxity in omega (arith, j.1, j.2)) j.3)

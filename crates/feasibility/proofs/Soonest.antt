-- Some plan gives up no more than the counts ask for: it bakes in each slot the soonest job in date.
use mathlib.Core.Path.{◌≡◌, refl, subst}
use mathlib.Core.Bool.{not}
use mathlib.Core.Logic.{⊎_elim}
use mathlib.Core.Option.{Option, none, some}
use mathlib.Core.List.Memᴰ
use mathlib.Core.List.{List, Memᴰ}
use Prim.Native.Nat.{ℕ, zero, suc, ◌+◌, ◌≤◌, ◌<◌}
use native.Mathlib.Omega.{arith}
use lib.Dec.{leb, eqb}
use lib.ListN.{length}
use borrow.Author.Tests.{leb-true, le-leb}
use Rattle.lists.specs.Select.{select}
use Rattle.lists.proofs.Tests.{cmp}
use Rattle.lists.proofs.Members.{select_mem, mem_select}
use Rattle.lists.proofs.Counting.{count_every, count_length}
use Rattle.lists.proofs.Less.{length_less}
use Rattle.rule.specs.Job.{Job, laxity, in_date}
use Rattle.rule.specs.Bake.{soonest}
use Rattle.rule.proofs.Tight.Excess.{up_to}
use Rattle.rule.proofs.Earliest.{soonest_is, soonest_none}
use Rattle.books.specs.Rule.{without}
use Rattle.books.proofs.Walks.Tickets.{rising_select, without_mem}
use Rattle.books.proofs.Walks.Without.{without_less}
use Rattle.feasibility.specs.PlanFrom.{bakes_job, given_up_by}
use Rattle.feasibility.proofs.Plans.{Waiting, given_plan}
use Rattle.feasibility.proofs.NextSlot.{next_bound}
use Rattle.feasibility.proofs.BakeNow.{PlanLosing, bake_now}

-- no job is in date: nothing is baked
idle : (now k : ℕ) (A : List Job) → Waiting now A → ((r : Job) → Memᴰ r A → r.last < now) → up_to now A 0 ≤ k → PlanLosing now A k
unfolding given_up_by
idle now k A W f h =
    record {
      p = λ s. 0;
      plan = given_plan now A (λ s. 0) W (λ s z. absurd (z refl)) (λ s t z. absurd (z refl));
      few =
          omega (
            arith,
            count_length (λ (r : Job). not (bakes_job (λ s. 0) now r)) A,
            count_every (λ (r : Job). leb (laxity now r) 0) A (λ x m. le-leb (laxity now x) 0 (unfold laxity in omega (arith, f x m))),
          );
    }

waiting_next : (now t : ℕ) (A : List Job) → Waiting now A → Waiting (suc now) (without t A)
waiting_next now t A W =
    record {
      rising = unfold without in rising_select (λ r. not (eqb r.ticket t)) A W.rising;
      come = λ r m. omega (arith, W.come r (without_mem t A m).0);
    }

abbrev Bound : (now k : ℕ) → List Job → Type 0
Bound now k A = (l : ℕ) → up_to now A l ≤ l + k

-- one slot, from plans for fewer jobs
one_slot : (now k : ℕ) (A : List Job) → Waiting now A → Bound now k A
    → ((B : List Job) → length B < length A → Waiting (suc now) B → Bound (suc now) k B → PlanLosing (suc now) B k) → PlanLosing now A k
unfolding in_date
one_slot now k A W h ih = go (soonest D) refl
  where
    D : List Job
    D = select (λ (r : Job). leb now r.last) A

    dated : (r : Job) → Memᴰ r A → now ≤ r.last → Memᴰ r D
    dated r m d = mem_select (λ (r : Job). leb now r.last) m (le-leb now r.last d)

    go : (o : Option Job) → soonest D ≡ o → PlanLosing now A k
    go none e =
        idle now k A W
        (λ r m.
        ⊎_elim (λ (d : now ≤ r.last). absurd (Memᴰ.not-nil (subst (Memᴰ r) (soonest_none D e) (dated r m d)))) (λ d. d) (cmp now r.last))
        (omega (arith, h 0))
    go (some q) e =
        let S = soonest_is D q e in
        let i = select_mem (λ (r : Job). leb now r.last) q A S.member in
        let d = leb-true now q.last i.1 in
        let L = without_less W.rising i.0 in
        bake_now now k A W q i.0 d
        (ih (without q.ticket A) (omega (arith, length_less L)) (waiting_next now q.ticket A W)
        (next_bound now k L d (λ r m c. (S.sooner r (dated r m c)).last) h))
        L

-- for n jobs at the most
pub plan_losing : (n now k : ℕ) (A : List Job) → length A ≤ n → Waiting now A → Bound now k A → PlanLosing now A k
plan_losing zero now k A b W h = one_slot now k A W h (λ B i. absurd (omega arith))
plan_losing (suc n) now k A b W h = one_slot now k A W h (λ B i. plan_losing n (suc now) k B (omega arith))

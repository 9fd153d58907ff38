-- Jobs that wait, and plans from a slot on, taken apart and put together.
use mathlib.Core.Path.{◌≡◌, sym, subst}
use mathlib.Core.Bool.{true}
use mathlib.Core.List.{List, map, append-nil, Memᴰ}
use Prim.Native.Nat.{ℕ, ◌≤◌}
use native.Mathlib.Omega.{arith}
use lib.Dec.{leb}
use borrow.Author.Tests.{leb-true}
use Rattle.lists.specs.Select.{every}
use Rattle.lists.specs.Rise.{rise}
use Rattle.lists.proofs.Tests.{and_left, and_right}
use Rattle.lists.proofs.Members.{every_mem}
use Rattle.rule.specs.Job.{Job}
use Rattle.books.specs.Book.{jobs, entered}
use Rattle.books.specs.Schedule.{Schedule}
use Rattle.books.proofs.Walks.Tickets.{Rising}
use Rattle.feasibility.specs.PlanFrom.{waiting, nothing_more, PlanFrom}

pub record Waiting (now : ℕ) (A : List Job) : Type 0 where
  pub rising : Rising 0 A
  pub come : (r : Job) → Memᴰ r A → r.admitted ≤ now

pub waiting_true : (now : ℕ) (A : List Job) → waiting now A ≡ true → Waiting now A
unfolding waiting
waiting_true now A h =
    let a = rise 0 (map (λ (r : Job). r.ticket) A) in
    let b = every (λ (r : Job). leb r.admitted now) A in
    record {
      rising = record { rises = and_left a b h };
      come = λ r m. leb-true r.admitted now (every_mem (λ (r : Job). leb r.admitted now) (and_right a b h) m);
    }

book_jobs : (now : ℕ) (A : List Job) → jobs (nothing_more now A) ≡ A
unfolding jobs nothing_more entered
book_jobs now A = append-nil A

-- the job of a slot that is given a ticket
pub record Given (A : List Job) (p : Schedule) (s : ℕ) : Type 0 where
  pub r : Job
  pub mem : Memᴰ r A
  pub ticket : r.ticket ≡ p s
  pub upto : s ≤ r.last

pub plan_given : {now : ℕ} {A : List Job} {p : Schedule} → PlanFrom now A p → (s : ℕ) → ¬ (p s ≡ 0) → Given A p s
plan_given {now} {A} P s h =
    let x = P.plan.of_book s h in
    record { r = x.0; mem = subst (Memᴰ x.0) (book_jobs now A) x.1; ticket = x.2; upto = x.4 }

-- every job in hand may be given any slot from now on
pub given_plan : (now : ℕ) (A : List Job) (p : Schedule) → Waiting now A → ((s : ℕ) → ¬ (p s ≡ 0) → Given A p s × (now ≤ s))
    → ((s t : ℕ) → ¬ (p s ≡ 0) → p s ≡ p t → s ≡ t) → PlanFrom now A p
given_plan now A p W f once =
    record {
      plan =
          record {
            of_book =
                λ s h.
                let g = (f s h).0 in
                (g.r, subst (Memᴰ g.r) (sym (book_jobs now A)) g.mem, g.ticket, omega (arith, W.come g.r g.mem, (f s h).1), g.upto);
            once = once;
          };
      start = λ s h. (f s h).1;
    }

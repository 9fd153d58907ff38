-- A further job can be promised exactly where there is room for it, so the least laxity that fits is the least that can be promised.
use mathlib.Core.Path.{◌≡◌}
use mathlib.Core.Bool.{true, false}
use mathlib.Core.Logic.{⊎_elim}
use mathlib.Core.List.{List, [], ◌∷◌, Memᴰ}
use Prim.Native.Nat.{ℕ, ◌-◌, ◌≤◌, ◌<◌}
use native.Mathlib.Omega.{arith}
use lib.Dec.{ltb}
use borrow.Author.Tests.{ltb-true}
use Rattle.lists.specs.Select.{every}
use Rattle.lists.proofs.Tests.{cmp, never, and_left, and_right}
use Rattle.lists.proofs.Members.{every_mem, each_more}
use Rattle.lists.proofs.LeastPassing.{LeastPassing, least_passing_is}
use Rattle.rule.specs.Job.{Job, job}
use Rattle.rule.specs.Promise.{with_further, fits, least_promised}
use Rattle.rule.proofs.Tight.Promise.{Room, counts_further, fits_room, room_fits, room_longer}
use Rattle.books.proofs.Walks.Tickets.{rising_nil, rising_cons, rising_append}
use Rattle.feasibility.specs.Promise.{CanPromise, new_ticket, StillPromised, PromisedLeast, LongerToo}
use Rattle.feasibility.proofs.Plans.{Waiting, waiting_true}
use Rattle.feasibility.proofs.AllBaked.{all_baked_counts, counts_all_baked}

-- t is a ticket for one job more
pub record NewTicket (A : List Job) (t : ℕ) : Type 0 where
  pub some : 1 ≤ t
  pub above : (r : Job) → Memᴰ r A → r.ticket < t

new_ticket_true : (A : List Job) (t : ℕ) → new_ticket A t ≡ true → NewTicket A t
unfolding new_ticket
new_ticket_true A t h =
    let a = ltb 0 t in
    let b = every (λ (r : Job). ltb r.ticket t) A in
    record {
      some = ltb-true 0 t (and_left a b h);
      above = λ r m. ltb-true r.ticket t (every_mem (λ (r : Job). ltb r.ticket t) (and_right a b h) m);
    }

module _ {now : ℕ} {A : List Job} {t : ℕ} (W : Waiting now A) (N : NewTicket A t) (g : ℕ) where
  waiting_further : (w : ℕ) → Waiting now (with_further now A t w g)
  unfolding with_further job
  waiting_further w =
      record {
        rising =
            rising_append (t - 1) A (job t now w g ∷ []) W.rising (λ x m. omega (arith, N.above x m)) (omega arith)
            (rising_cons (omega (arith, N.some)) (rising_nil t));
        come = each_more (λ (r : Job). r.admitted ≤ now) A W.come (omega arith);
      }

  promise_room : (w : ℕ) → 1 ≤ w → CanPromise now A t g w → Room now A w
  promise_room w h P = record { at = λ l. omega (arith, counts_further now A t w g h l, all_baked_counts (waiting_further w) P l) }

  room_promise : (w : ℕ) → 1 ≤ w → Room now A w → CanPromise now A t g w
  room_promise w h R = counts_all_baked (waiting_further w) (λ l. omega (arith, counts_further now A t w g h l, R.at l))

  pub still_promised : (longest : ℕ) → StillPromised longest now A t g (least_promised longest now A)
  unfolding least_promised
  still_promised longest =
      record {
        within = ⊎_elim (λ (h : 1 ≤ w). (F.passes h).0) (λ h. omega arith) (cmp 1 w);
        kept = kept;
        least = λ v h k. no v h (F.less v h (omega arith));
        zero_only_if = λ e v h k. no v h (F.none e v h k);
        zero_if = λ f. ⊎_elim (λ (h : 1 ≤ w). absurd (f w h (F.passes h).0 (kept h))) (λ h. omega arith) (cmp 1 w);
      }
    where
      w : ℕ
      w = least_promised longest now A

      F : LeastPassing (fits now A) longest w
      F = least_passing_is (fits now A) longest

      kept : 1 ≤ w → CanPromise now A t g w
      kept h = room_promise w h (fits_room now A w h (F.passes h).1)

      no : (v : ℕ) → 1 ≤ v → fits now A v ≡ false → ¬ CanPromise now A t g v
      no v h e P = never (room_fits now A v h (promise_room v h P)) e

  longer : (v w : ℕ) → 1 ≤ v → v ≤ w → CanPromise now A t g v → CanPromise now A t g w
  longer v w h k P = room_promise w (omega arith) (room_longer now A w k (promise_room v h P))

pub promised_least : PromisedLeast
unfolding PromisedLeast
promised_least longest now A h t g n = still_promised (waiting_true now A h) (new_ticket_true A t n) g longest

pub longer_too : LongerToo
unfolding LongerToo
longer_too now A h t g n = longer (waiting_true now A h) (new_ticket_true A t n) g

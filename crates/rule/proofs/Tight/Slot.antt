-- The tight slot of a list of jobs: its counts have it, and the tight jobs are those whose last slot is no later.
use mathlib.Core.Path.{◌≡◌}
use mathlib.Core.List.{List, Memᴰ}
use Prim.Native.Nat.{ℕ, suc, ◌+◌, ◌-◌, ◌≤◌, ◌<◌}
use native.Mathlib.Omega.{arith}
use lib.Dec.{leb}
use borrow.Author.Tests.{leb-true, le-leb}
use Rattle.heights.proofs.Heights.Part.{same_sym}
use Rattle.heights.proofs.Heights.TightSlot.{TightSlot, SmallestExcess, excess_tight, tight_same}
use Rattle.lists.specs.Select.{select}
use Rattle.lists.proofs.Members.{select_mem, mem_select}
use Rattle.rule.specs.Job.{Job, laxity, in_date}
use Rattle.rule.specs.Tight.{tight_laxity, tight}
use Rattle.rule.proofs.Tight.Laxity.{TightLaxity, tight_laxity_is}
use Rattle.rule.proofs.Tight.Counts.{part, member_falls, fall_member, up_to_from_on, AllInDate, in_date_all, in_date_same}

-- the last slot that goes with the tight laxity
unfoldable pub tight_last : ℕ → List Job → ℕ
tight_last now A = now + tight_laxity now A - 1

-- a job in date: its last slot by its laxity
laxity_last : (now : ℕ) (r : Job) → now ≤ r.last → suc r.last ≡ now + laxity now r
unfolding laxity
laxity_last now r h = omega arith

-- where the count falls there is a job, and its laxity
fall_laxity : {now : ℕ} {A : List Job} → AllInDate now A → (t : ℕ) → (part A).at (suc t) < (part A).at t → (r : Job) × Memᴰ r A × (suc t ≡ now + laxity now r)
fall_laxity {now} {A} d t j =
    let q = fall_member A t (suc t) j in
    (q.0, q.1, omega (arith, laxity_last now q.0 (d q.0 q.1), q.2, q.3))

tight_laxity_last : {now l : ℕ} {A : List Job} → AllInDate now A → TightLaxity now A l → (s : ℕ) → suc s ≡ now + l → SmallestExcess now (part A) s
tight_laxity_last {now} {l} {A} d T s e =
    let (r, m, k) = T.present in
    let last : r.last ≡ s = omega (arith, laxity_last now r (d r m), k) in
    record {
      date = omega (arith, d r m);
      present = member_falls m s (suc s) (omega arith) (omega arith);
      least =
          λ t h j.
          let q = fall_laxity d t j in
          omega (arith, T.least q.0 q.1, up_to_from_on now A l s e, up_to_from_on now A (laxity now q.0) t q.2);
      first =
          λ t h j b.
          let q = fall_laxity d t j in
          omega (arith, T.first q.0 q.1 (omega arith), up_to_from_on now A l s e, up_to_from_on now A (laxity now q.0) t q.2);
    }

-- the slot after the tight one, where a job is in date
tight_last_suc : (now : ℕ) (A : List Job) {r : Job} → AllInDate now A → Memᴰ r A → suc (tight_last now A) ≡ now + tight_laxity now A
unfolding tight_last
tight_last_suc now A d m =
    let p = (tight_laxity_is now A m).present in
    omega (arith, laxity_last now p.0 (d p.0 p.1), d p.0 p.1, p.2)

pub tight_last_is : (now : ℕ) (A : List Job) {r : Job} → AllInDate now A → Memᴰ r A → TightSlot now (part A) (tight_last now A)
tight_last_is now A d m = excess_tight (tight_laxity_last d (tight_laxity_is now A m) (tight_last now A) (tight_last_suc now A d m))

-- the tight jobs are those with a last slot up to the tight one
pub tight_mem : (now : ℕ) (A : List Job) {r : Job} → AllInDate now A → Memᴰ r (tight now A) → Memᴰ r A × (r.last ≤ tight_last now A)
unfolding tight
tight_mem now A {r} d m =
    let s = select_mem (λ q. leb (laxity now q) (tight_laxity now A)) r A m in (
      s.0,
      omega (arith, leb-true (laxity now r) (tight_laxity now A) s.1, laxity_last now r (d r s.0), tight_last_suc now A d s.0),
    )

pub mem_tight : (now : ℕ) (A : List Job) {r : Job} → AllInDate now A → Memᴰ r A → r.last ≤ tight_last now A → Memᴰ r (tight now A)
unfolding tight
mem_tight now A {r} d m h =
    mem_select (λ q. leb (laxity now q) (tight_laxity now A)) m
    (le-leb (laxity now r) (tight_laxity now A) (omega (arith, laxity_last now r (d r m), tight_last_suc now A d m)))

-- jobs that have expired change nothing: the tight slot of the jobs in date is that of all
pub in_date_tight : (now : ℕ) (L : List Job) {r : Job} → Memᴰ r (select (in_date now) L) → TightSlot now (part L) (tight_last now (select (in_date now) L))
in_date_tight now L m = tight_same (same_sym (in_date_same now L)) (tight_last_is now (select (in_date now) L) (in_date_all now L) m)

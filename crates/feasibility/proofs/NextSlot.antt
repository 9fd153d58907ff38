-- The soonest job in date is baked now: what the others' counts are in the next slot.
use mathlib.Core.Path.{◌≡◌}
use mathlib.Core.Logic.{◌⊎◌, inl, inr, ⊎_elim}
use mathlib.Core.List.{List, Memᴰ}
use Prim.Native.Nat.{ℕ, suc, ◌+◌, ◌-◌, ◌≤◌, ◌<◌}
use native.Mathlib.Omega.{arith}
use lib.Dec.{leb}
use borrow.Author.Tests.{leb-true, le-leb}
use Rattle.lists.specs.Select.{one_if}
use Rattle.lists.proofs.Tests.{cmp, same_test}
use Rattle.lists.proofs.Counting.{one_if_yes, count_cong, count_mono}
use Rattle.lists.proofs.Less.{Less, count_less}
use Rattle.rule.specs.Job.{Job, laxity}
use Rattle.rule.proofs.Tight.Excess.{up_to}

-- laxity l in the next slot is laxity l + 1 now
next_laxity : (now l : ℕ) (A : List Job) → up_to (suc now) A l ≡ up_to now A (suc l)
unfolding laxity
next_laxity now l A =
    count_cong (λ (r : Job). leb (r.last + 1 - suc now) l) (λ (r : Job). leb (r.last + 1 - now) (suc l)) A
    (λ x m.
    same_test (leb (x.last + 1 - suc now) l) (leb (x.last + 1 - now) (suc l))
    (λ e. let k = leb-true (x.last + 1 - suc now) l e in le-leb (x.last + 1 - now) (suc l) (omega arith))
    (λ e. let k = leb-true (x.last + 1 - now) (suc l) e in le-leb (x.last + 1 - suc now) l (omega arith)))

-- a bound with k to spare goes over to the next slot
pub next_bound : (now k : ℕ) {q : Job} {A A' : List Job} → Less q A A' → now ≤ q.last
    → ((r : Job) → Memᴰ r A → now ≤ r.last → q.last ≤ r.last)
    → ((l : ℕ) → up_to now A l ≤ l + k) → (l : ℕ) → up_to (suc now) A' l ≤ l + k
next_bound now k {q} {A} {A'} L d first h l = go (cmp (laxity now q) (suc l))
  where
    out : up_to now A (suc l) ≡ one_if (leb (laxity now q) (suc l)) + up_to now A' (suc l)
    out = count_less (λ (r : Job). leb (laxity now r) (suc l)) L

    -- none in date is so soon
    late : suc l < laxity now q → up_to now A (suc l) ≤ up_to now A 0
    late c =
        count_mono (λ (r : Job). leb (laxity now r) (suc l)) (λ (r : Job). leb (laxity now r) 0) A
        (λ x m e.
        let i = leb-true (laxity now x) (suc l) e in
        le-leb (laxity now x) 0
        (unfold laxity in
        ⊎_elim (λ (j : now ≤ x.last). absurd (omega (arith, first x m j))) (λ (j : x.last < now). omega arith) (cmp now x.last)))

    go : (laxity now q ≤ suc l) ⊎ (suc l < laxity now q) → up_to (suc now) A' l ≤ l + k
    go (inl c) = omega (arith, next_laxity now l A', h (suc l), out, one_if_yes (leb (laxity now q) (suc l)) (le-leb (laxity now q) (suc l) c))
    go (inr c) = omega (arith, next_laxity now l A', out, late c, h 0)

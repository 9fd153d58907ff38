-- The no-regret set lies in the list, and is empty only with it. So a job is baked from every list but the empty one, and it is a no-regret job.
use mathlib.Core.Path.{◌≡◌, refl, ap, ◌∙◌, sym}
use mathlib.Core.Bool.{Bool, true, false, not}
use mathlib.Core.Logic.{◌⊎◌, inl, inr}
use mathlib.Core.List.{List, [], ◌∷◌, ◌++◌, Memᴰ}
use mathlib.Core.Option.{none, some, some-ne-none}
use Prim.Native.Nat.{ℕ, zero, suc, ◌+◌, ◌≤◌, ◌<◌}
use native.Mathlib.Omega.{arith}
use lib.Dec.{leb}
use lib.ListN.{length, length-append}
use borrow.Author.Tests.{le-leb}
use Rattle.lists.specs.Select.{has}
use Rattle.lists.proofs.Tests.{test}
use Rattle.lists.proofs.Members.{select_mem, mem_select, has_mem, has_none}
use Rattle.rule.specs.Job.{Job, laxity}
use Rattle.rule.specs.Grade.{bits, starts, graded, starting}
use Rattle.rule.specs.Tight.{tight_laxity, tight}
use Rattle.rule.specs.Descent.{next_bit, descend, no_regret_after, no_regret}
use Rattle.rule.specs.Bake.{baked}
use Rattle.rule.proofs.Bits.Number.{length_bits}
use Rattle.rule.proofs.Bits.Starts.{starts_next}
use Rattle.rule.proofs.Tight.Laxity.{tight_laxity_is}
use Rattle.rule.proofs.Earliest.{SoonestOf, soonest_is, soonest_some}

pub starting_mem : (d : ℕ) (u : List Bool) (A : List Job) {r : Job} → Memᴰ r (starting d u A) → Memᴰ r A × (graded d u r ≡ true)
unfolding starting
starting_mem d u A {r} m = select_mem (graded d u) r A m

pub mem_starting : (d : ℕ) (u : List Bool) {A : List Job} {r : Job} → Memᴰ r A → graded d u r ≡ true → Memᴰ r (starting d u A)
unfolding starting
mem_starting d u m h = mem_select (graded d u) m h

pub tight_in : (now : ℕ) (A : List Job) {r : Job} → Memᴰ r (tight now A) → Memᴰ r A
unfolding tight
tight_in now A {r} m = (select_mem (λ q. leb (laxity now q) (tight_laxity now A)) r A m).0

-- the tight set of a list with a job has a job
pub tight_some : (now : ℕ) (A : List Job) {r : Job} → Memᴰ r A → (q : Job) × Memᴰ q (tight now A)
unfolding tight
tight_some now A m =
    let p = (tight_laxity_is now A m).present in
    (p.0, mem_select (λ q. leb (laxity now q) (tight_laxity now A)) p.1 (le-leb (laxity now p.0) (tight_laxity now A) (omega (arith, p.2))))

-- the set after j bits lies in the list
pub after_mem : (now d j : ℕ) (A : List Job) {r : Job} → Memᴰ r (no_regret_after now d j A) → Memᴰ r A
unfolding no_regret_after
after_mem now d j A m =
    let u = descend now d A j [] in
    (starting_mem d u A (tight_in now (starting d u A) m)).0

-- the bit that is added leads to a job
next_some : (now d : ℕ) (A : List Job) (u : List Bool) {r : Job} → length u < d → Memᴰ r (starting d u A)
    → (q : Job) × Memᴰ q (starting d (u ++ (next_bit now d A u ∷ [])) A)
unfolding next_bit graded
next_some now d A u h m = go (test (has zero_next T))
  where
    T : List Job
    T = tight now (starting d u A)

    zero_next : Job → Bool
    zero_next = graded d (u ++ (false ∷ []))

    go : (has zero_next T ≡ true) ⊎ (has zero_next T ≡ false) → (q : Job) × Memᴰ q (starting d (u ++ (not (has zero_next T) ∷ [])) A)
    go (inl k) =
        let (q, i, g) = has_mem zero_next T k in
        (q, rw k (mem_starting d (u ++ (false ∷ [])) (starting_mem d u A (tight_in now (starting d u A) i)).0 g))
    go (inr k) =
        let (q, i) = tight_some now (starting d u A) m in
        let s = starting_mem d u A (tight_in now (starting d u A) i) in
        let g : graded d (u ++ (true ∷ [])) q ≡ true =
        starts_next false u (bits d q.grade) s.1 (omega (arith, length_bits d q.grade)) ∙ ap not (has_none zero_next k i)
        in
        (q, rw k (mem_starting d (u ++ (true ∷ [])) s.0 g))

descend_some : (now d : ℕ) (A : List Job) (n : ℕ) (u : List Bool) {r : Job} → length u + n ≤ d → Memᴰ r (starting d u A)
    → (q : Job) × Memᴰ q (starting d (descend now d A n u) A)
unfolding descend
descend_some now d A zero u {r} h m = (r, m)
descend_some now d A (suc n) u h m =
    let b = next_bit now d A u in
    descend_some now d A n (u ++ (b ∷ [])) (omega (arith, length-append u (b ∷ []))) (next_some now d A u (omega arith) m).1

pub after_some : (now d j : ℕ) (A : List Job) {r : Job} → j ≤ d → Memᴰ r A → (q : Job) × Memᴰ q (no_regret_after now d j A)
unfolding no_regret_after graded starts
after_some now d j A h m = tight_some now (starting d (descend now d A j []) A) (descend_some now d A j [] (omega arith) (mem_starting d [] m refl)).1

-- the job that is baked
pub baked_is : (now d : ℕ) (A : List Job) (q : Job) → baked now d A ≡ some q → SoonestOf (no_regret now d A) q
unfolding baked
baked_is now d A q e = soonest_is (no_regret now d A) q e

pub baked_mem : (now d : ℕ) (A : List Job) (q : Job) → baked now d A ≡ some q → Memᴰ q A
unfolding no_regret
baked_mem now d A q e = after_mem now d d A (baked_is now d A q e).member

pub baked_some : (now d : ℕ) (A : List Job) {r : Job} → Memᴰ r A → (q : Job) × (baked now d A ≡ some q)
unfolding baked no_regret
baked_some now d A m = soonest_some (no_regret now d A) (after_some now d d A (omega arith) m).1

pub baked_none : (now d : ℕ) (A : List Job) → baked now d A ≡ none → A ≡ []
baked_none now d [] e = refl
baked_none now d (r ∷ A) e = let s = baked_some now d (r ∷ A) (Memᴰ.head refl) in absurd (some-ne-none s.0 (sym s.1 ∙ e))

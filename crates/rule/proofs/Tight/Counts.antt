-- The counts of a list of jobs as a part: how many have a last slot of at least s.
use mathlib.Core.Path.{◌≡◌, refl, ap, ◌∙◌}
use mathlib.Core.Bool.{◌&&◌}
use mathlib.Core.Logic.{◌⊎◌, inl, inr}
use mathlib.Core.List.{List, [], ◌∷◌, Memᴰ}
use Prim.Native.Nat.{ℕ, suc, ◌+◌, ◌-◌, ◌≤◌, ◌<◌, min}
use native.Mathlib.Omega.{arith}
use lib.Dec.{leb}
use lib.ListN.{length}
use borrow.Author.Tests.{leb-true, le-leb}
use Rattle.heights.proofs.Heights.Part.{Part, Same}
use Rattle.heights.proofs.Heights.Counted.{from_on_nil as counted-nil, from_on_cons as counted-cons, part_of}
use Rattle.lists.specs.Select.{select, how_many}
use Rattle.lists.proofs.Tests.{cmp, and_right, and_intro, same_test}
use Rattle.lists.proofs.Members.{select_mem}
use Rattle.lists.proofs.Counting.{one_leb, count_cong, count_in_selection}
use Rattle.rule.specs.Job.{Job, laxity, in_date}
use Rattle.rule.proofs.Tight.Excess.{up_to}

-- how many jobs have a last slot of at least s
abbrev pub from_on : List Job → ℕ → ℕ
from_on A s = how_many (λ (r : Job). leb s r.last) A

pub from_on_cons : (r : Job) (A : List Job) (s : ℕ) → from_on (r ∷ A) s ≡ min 1 (suc r.last - s) + from_on A s
from_on_cons r A s = counted-cons (λ (r : Job). r.last) r A s

pub from_on_nil : (s : ℕ) → from_on [] s ≡ 0
from_on_nil s = counted-nil (λ (r : Job). r.last) s

abbrev pub part : List Job → Part
part A = part_of (λ (r : Job). r.last) A

-- past a member's last slot the count has fallen
pub member_falls : {r : Job} {A : List Job} → Memᴰ r A → (s t : ℕ) → s ≤ r.last → r.last < t → from_on A t < from_on A s
member_falls {r = r} (Memᴰ.head {x = q} {xs = A} e) s t h k =
    omega (arith, ap (λ (x : Job). x.last) e, from_on_cons q A s, from_on_cons q A t, (part A).anti s t (omega arith))
member_falls (Memᴰ.tail {x = q} {xs = A} m) s t h k = omega (arith, member_falls m s t h k, from_on_cons q A s, from_on_cons q A t)

-- where the count has fallen there is a member
pub fall_member : (A : List Job) (s t : ℕ) → from_on A t < from_on A s → (r : Job) × Memᴰ r A × (s ≤ r.last) × (r.last < t)
fall_member [] s t h = absurd (omega (arith, from_on_nil s, from_on_nil t))
fall_member (q ∷ A) s t h = go (λ k. fall_member A s t k) (cmp s q.last) (cmp t q.last)
  where
    go : (from_on A t < from_on A s → (r : Job) × Memᴰ r A × (s ≤ r.last) × (r.last < t)) → (s ≤ q.last) ⊎ (q.last < s)
        → (t ≤ q.last) ⊎ (q.last < t) → (r : Job) × Memᴰ r (q ∷ A) × (s ≤ r.last) × (r.last < t)
    go ih (inl a) (inr b) = (q, Memᴰ.head refl, a, b)
    go ih (inl a) (inl b) = let x = ih (omega (arith, from_on_cons q A s, from_on_cons q A t)) in (x.0, Memᴰ.tail x.1, x.2, x.3)
    go ih (inr a) b = let x = ih (omega (arith, from_on_cons q A s, from_on_cons q A t)) in (x.0, Memᴰ.tail x.1, x.2, x.3)

-- the jobs with laxity l or less, and those with a later last slot
pub up_to_from_on : (now : ℕ) (A : List Job) (l s : ℕ) → suc s ≡ now + l → up_to now A l + from_on A (suc s) ≡ length A
unfolding how_many laxity
up_to_from_on now [] l s e = refl
up_to_from_on now (r ∷ A) l s e =
    omega (arith, up_to_from_on now A l s e, one_leb (r.last + 1 - now) l, one_leb (suc s) r.last)

-- all jobs are in date
abbrev pub AllInDate : ℕ → List Job → Type 0
AllInDate now A = (r : Job) → Memᴰ r A → now ≤ r.last

pub in_date_all : (now : ℕ) (L : List Job) → AllInDate now (select (in_date now) L)
unfolding in_date
in_date_all now L r m = leb-true now r.last (select_mem (λ (q : Job). leb now q.last) r L m).1

-- the jobs in date have the counts of all, from now on
pub in_date_same : (now : ℕ) (L : List Job) → Same now (part (select (in_date now) L)) (part L)
unfolding in_date
in_date_same now L =
    record {
      is =
          λ s h.
          count_in_selection (λ (r : Job). leb s r.last) (λ (r : Job). leb now r.last) L
          ∙ count_cong (λ (r : Job). leb now r.last && leb s r.last) (λ (r : Job). leb s r.last) L
          (λ r m.
          same_test (leb now r.last && leb s r.last) (leb s r.last) (and_right (leb now r.last) (leb s r.last))
          (λ k. and_intro (leb now r.last) (leb s r.last) (le-leb now r.last (omega (arith, leb-true s r.last k))) k));
    }

-- The descent over a grade's bits: one step of it, and the set that it ends at.
use mathlib.Core.Path.{◌≡◌, refl, ap, ◌∙◌}
use mathlib.Core.Bool.{Bool, true, false, not}
use mathlib.Core.Logic.{◌⊎◌, inl, inr}
use mathlib.Core.List.{List, [], ◌∷◌, ◌++◌}
use Prim.Native.Nat.{ℕ, zero, suc, ◌-◌, ◌≤◌}
use native.Mathlib.Numerals.{sub-one}
use native.Mathlib.Omega.{arith}
use lib.Dec.{leb, ltb}
use borrow.Author.Tests.{ltb-true, lt-ltb}
use Rattle.lists.specs.Select.{select, how_many, has}
use Rattle.lists.proofs.Tests.{test, same_test}
use Rattle.lists.proofs.Members.{select_mem, mem_select, has_mem, mem_has}
use Rattle.lists.proofs.Counting.{count_mem, count_has}
use Rattle.rule.specs.Job.{Job, laxity}
use Rattle.rule.specs.Grade.{bits, graded, starting}
use Rattle.rule.specs.Tight.{tight_laxity, tight}
use Rattle.rule.specs.Descent.{next_bit, descend, no_regret_after, no_regret}
use Rattle.rule.proofs.Bits.Starts.{starts_append}

-- where g passes whatever f passes: to count what passes f and t is to look among what passes g and t for what passes f
module _ {A : Type 0} (f g t : A → Bool) (only : (x : A) → f x ≡ true → g x ≡ true) (l : List A) where
  counted_found : ltb 0 (how_many t (select f l)) ≡ true → has f (select t (select g l)) ≡ true
  counted_found h = go (test (has t (select f l)))
    where
      go : (has t (select f l) ≡ true) ⊎ (has t (select f l) ≡ false) → has f (select t (select g l)) ≡ true
      go (inl k) =
          let (x, i, p) = has_mem t (select f l) k in
          let s = select_mem f x l i in
          mem_has f (mem_select t (mem_select g s.0 (only x s.1)) p) s.1
      go (inr k) = absurd (omega (arith, count_has t (select f l) k, ltb-true 0 (how_many t (select f l)) h))

  found_counted : has f (select t (select g l)) ≡ true → ltb 0 (how_many t (select f l)) ≡ true
  found_counted h =
      let (x, i, p) = has_mem f (select t (select g l)) h in
      let s = select_mem t x (select g l) i in
      lt-ltb 0 (how_many t (select f l)) (omega (arith, count_mem t (mem_select f (select_mem g x l s.0).0 p) s.1))

  pub counted_has : ltb 0 (how_many t (select f l)) ≡ has f (select t (select g l))
  counted_has = same_test (ltb 0 (how_many t (select f l))) (has f (select t (select g l))) counted_found found_counted

not_not : (b : Bool) → b ≡ not (not b)
not_not true = refl
not_not false = refl

-- a job within the tight laxity that goes on with 0
pub zero_next : (now d : ℕ) (A : List Job) (u : List Bool)
    → ltb 0 (how_many (λ r. leb (laxity now r) (tight_laxity now (starting d u A))) (starting d (u ++ (false ∷ [])) A)) ≡ not (next_bit now d A u)
unfolding next_bit tight starting graded
zero_next now d A u =
    counted_has (graded d (u ++ (false ∷ []))) (graded d u) (λ r. leb (laxity now r) (tight_laxity now (starting d u A)))
    (λ r. starts_append u (false ∷ []) (bits d r.grade)) A
    ∙ not_not (has (graded d (u ++ (false ∷ []))) (tight now (starting d u A)))

-- the descent with one bit fewer left
pub one_fewer : (now d : ℕ) (A : List Job) (left : ℕ) (u : List Bool) → 1 ≤ left → descend now d A left u ≡ descend now d A (left - 1) (u ++ (next_bit now d A u ∷ []))
unfolding descend
one_fewer now d A zero u h = absurd (omega arith)
one_fewer now d A (suc n) u h = rw sub-one refl

pub none_left : (now d : ℕ) (A : List Job) (left : ℕ) (u : List Bool) → left ≡ 0 → descend now d A left u ≡ u
unfolding descend
none_left now d A left u e = rw e refl

-- the whole descent ends at the no-regret set
pub no_regret_found : (now d : ℕ) (A : List Job) (g : ℕ) → bits d g ≡ descend now d A d (bits (d - d) 0) → no_regret now d A ≡ tight now (starting d (bits (d - 0) g) A)
unfolding no_regret no_regret_after bits
no_regret_found now d A g e =
    let n : d - d ≡ 0 = omega arith in
    let w : d - 0 ≡ d = omega arith in
    let u : bits (d - 0) g ≡ descend now d A d [] = ap (λ k. bits k g) w ∙ e ∙ ap (λ k. descend now d A d (bits k 0)) n in
    rw u refl

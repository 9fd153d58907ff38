-- The tight laxity: some job has it, its excess is smallest, and it is the least such. These three decide it.
use mathlib.Core.Path.{◌≡◌, refl, ap}
use mathlib.Core.Bool.{true}
use mathlib.Core.Logic.{⊎_elim}
use mathlib.Core.List.Memᴰ
use mathlib.Core.List.{List, [], ◌∷◌, map, Memᴰ}
use Prim.Native.Nat.{ℕ, ◌+◌, ◌≤◌, ◌<◌}
use native.Mathlib.Omega.{arith}
use Rattle.lists.specs.Select.{select}
use Rattle.lists.specs.Least.{least}
use Rattle.lists.proofs.Tests.{cmp}
use Rattle.lists.proofs.Members.{select_mem, mem_select}
use Rattle.lists.proofs.Least.{least_mem, least_least}
use Rattle.rule.specs.Job.{Job, laxity}
use Rattle.rule.specs.Tight.{laxities, smallest, tight_laxity}
use Rattle.rule.proofs.Tight.Excess.{up_to, smallest_le, le_smallest}

pub record TightLaxity (now : ℕ) (A : List Job) (l : ℕ) : Type 0 where
  pub present : (r : Job) × Memᴰ r A × (laxity now r ≡ l)
  pub least : (r : Job) → Memᴰ r A → l + up_to now A (laxity now r) ≤ laxity now r + up_to now A l
  pub first : (r : Job) → Memᴰ r A → laxity now r < l → l + up_to now A (laxity now r) < laxity now r + up_to now A l

-- of some numbers one has the smallest x less f x
smallest_of : (f : ℕ → ℕ) (n : ℕ) (l : List ℕ) → (x : ℕ) × Memᴰ x (n ∷ l) × ((y : ℕ) → Memᴰ y (n ∷ l) → x + f y ≤ y + f x)
smallest_of f n [] = (n, Memᴰ.head refl, λ y m. ⊎_elim (λ (e : y ≡ n). omega (arith, ap f e)) (λ k. absurd (Memᴰ.not-nil k)) (Memᴰ.cases_cons m))
smallest_of f n (k ∷ l) = go (smallest_of f k l)
  where
    go : (x : ℕ) × Memᴰ x (k ∷ l) × ((y : ℕ) → Memᴰ y (k ∷ l) → x + f y ≤ y + f x)
        → (x : ℕ) × Memᴰ x (n ∷ k ∷ l) × ((y : ℕ) → Memᴰ y (n ∷ k ∷ l) → x + f y ≤ y + f x)
    go (x, m, s) =
        ⊎_elim
        {C = (x : ℕ) × Memᴰ x (n ∷ k ∷ l) × ((y : ℕ) → Memᴰ y (n ∷ k ∷ l) → x + f y ≤ y + f x)}
        (λ (h : n + f x ≤ x + f n). (
          n,
          Memᴰ.head refl,
          λ y i. ⊎_elim (λ (e : y ≡ n). omega (arith, ap f e)) (λ j. omega (arith, s y j)) (Memᴰ.cases_cons i),
        ))
        (λ (h : x + f n < n + f x). (
          x,
          Memᴰ.tail m,
          λ y i. ⊎_elim (λ (e : y ≡ n). omega (arith, ap f e)) (λ j. s y j) (Memᴰ.cases_cons i),
        ))
        (cmp (n + f x) (x + f n))

-- some job's laxity has the smallest excess
some_smallest : (now : ℕ) (A : List Job) {r : Job} → Memᴰ r A → (x : ℕ) × Memᴰ x (laxities now A) × (smallest now A x ≡ true)
unfolding laxities
some_smallest now [] m = absurd (Memᴰ.not-nil m)
some_smallest now (q ∷ B) m =
    let A = q ∷ B in
    let s = smallest_of (up_to now A) (laxity now q) (map (laxity now) B) in
    (s.0, s.1, le_smallest now A s.0 (λ r i. s.2 (laxity now r) (Memᴰ.map (laxity now) i)))

-- the tight laxity of a list with a job
pub tight_laxity_is : (now : ℕ) (A : List Job) {r : Job} → Memᴰ r A → TightLaxity now A (tight_laxity now A)
unfolding tight_laxity laxities
tight_laxity_is now A m =
    let s = some_smallest now A m in
    let K = select (smallest now A) (map (laxity now) A) in
    let i = mem_select (smallest now A) s.1 s.2 in
    let t = select_mem (smallest now A) (least K) (map (laxity now) A) (least_mem K i) in
    let o = smallest_le now A (least K) t.1 in
    let p = Memᴰ.of_map (laxity now) A t.0 in
    record {
      present = (p.0, p.1, p.2);
      least = o;
      first =
          λ r j h.
          ⊎_elim
          (λ (c : laxity now r + up_to now A (least K) ≤ least K + up_to now A (laxity now r)).
          absurd
          (omega
          (arith, least_least K (mem_select (smallest now A) (Memᴰ.map (laxity now) j) (le_smallest now A (laxity now r) (λ q k. omega (arith, o q k, o r j)))))))
          (λ c. c)
          (cmp (laxity now r + up_to now A (least K)) (least K + up_to now A (laxity now r)));
    }

-- only one number is the tight laxity
pub tight_laxity_only : {now l m : ℕ} {A : List Job} → TightLaxity now A l → TightLaxity now A m → l ≡ m
tight_laxity_only {now} {l} {m} {A} S T =
    ⊎_elim (λ (h : l ≤ m). ⊎_elim (λ (k : m ≤ l). omega arith) (λ k. absurd (no S T k)) (cmp m l)) (λ k. absurd (no T S k)) (cmp l m)
  where
    no : {l m : ℕ} → TightLaxity now A l → TightLaxity now A m → l < m → ⊥
    no {l} {m} S T h =
        let (r, i, a) = S.present in
        let (q, j, b) = T.present in
        let x : m + up_to now A l < l + up_to now A m = rw a at (T.first r i (omega arith)) in
        let y : l + up_to now A m ≤ m + up_to now A l = rw b at (S.least q j) in
        omega arith

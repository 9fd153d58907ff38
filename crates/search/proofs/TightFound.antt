-- The best laxity of all is the tight one, with its excess.
use mathlib.Core.Path.{◌≡◌, refl, sym, ap, ap₂, ◌∙◌, subst}
use mathlib.Core.Bool.{true, false}
use mathlib.Core.Logic.{◌⊎◌, inl, inr, ⊎_elim}
use mathlib.Core.List.Memᴰ
use mathlib.Core.List.{List, [], ◌∷◌, map, Memᴰ}
use Prim.Native.Nat.{ℕ, ◌+◌, ◌-◌, ◌≤◌, ◌<◌}
use native.Mathlib.Omega.{arith}
use lib.Dec.{eqb}
use lib.IntN.{pos, ◌-ℤ◌}
use borrow.Author.Tests.{eqb-true, eq-eqb}
use Rattle.lists.specs.Select.{select, how_many, has}
use Rattle.lists.specs.Least.{least}
use Rattle.lists.proofs.Tests.{cmp, test}
use Rattle.lists.proofs.Least.{least_mem, least_least}
use Rattle.lists.proofs.Members.{has_mem}
use Rattle.lists.proofs.Counting.{count_mem, count_has}
use Rattle.rule.specs.Job.{Job, laxity}
use Rattle.rule.specs.Tight.{laxities, excess, tight_laxity}
use Rattle.rule.proofs.Tight.Excess.{up_to}
use Rattle.rule.proofs.Tight.Laxity.{tight_laxity_is, tight_laxity_only}
use Rattle.board.specs.Limits.{longest_laxity}
use Rattle.std.specs.Prelude.{Option, Some}
use Rattle.board.specs.Promise.{laxity_number}
use Rattle.smallest.specs.declared.Best.{Best}
use Rattle.search.specs.Inner.Answers.{best_of, best_laxity}
use Rattle.search.specs.Inner.Counts.{sum}
use Rattle.search.proofs.Sums.{sum_cong, sum_part, within_counts}
use Rattle.search.proofs.BestLaxity.{BestTo, none_yet, best_yet}

-- the laxity of the best is the tight one
pub laxity_of_best : (now : ℕ) (A : List Job) → best_laxity (best_of now A) ≡ tight_laxity now A
unfolding best_of tight_laxity laxities select least
laxity_of_best now [] = refl
laxity_of_best now (r ∷ A) = refl

best_some : (now : ℕ) (A : List Job) {r : Job} → Memᴰ r A → best_of now A ≡ Some (record { excess = excess now A (tight_laxity now A); laxity = laxity_number (tight_laxity now A) })
unfolding best_of
best_some now [] m = absurd (Memᴰ.not-nil m)
best_some now (q ∷ A) m = refl

-- c counts the jobs A, all of a laxity from 1 to the longest
module _ (now : ℕ) (A : List Job) (in_date : (r : Job) → Memᴰ r A → 1 ≤ laxity now r) (short : (r : Job) → Memᴰ r A → laxity now r ≤ longest_laxity)
    (c : ℕ → ℕ) (counts : (k : ℕ) → k < longest_laxity → c k ≡ how_many (λ r. eqb (laxity now r) (k + 1)) A) where
  pub within : (n : ℕ) → n ≤ longest_laxity → sum c n ≡ up_to now A n
  within n h = sum_cong c (λ k. how_many (λ r. eqb (laxity now r) (k + 1)) A) n (λ k i. counts k (omega arith)) ∙ within_counts now A in_date n

  -- a count above 0 has a job
  a_job : (k : ℕ) → k < longest_laxity → 1 ≤ c k → (r : Job) × Memᴰ r A × (laxity now r ≡ k + 1)
  a_job k h p = go (test (has (λ r. eqb (laxity now r) (k + 1)) A))
    where
      go : (has (λ r. eqb (laxity now r) (k + 1)) A ≡ true) ⊎ (has (λ r. eqb (laxity now r) (k + 1)) A ≡ false) → (r : Job) × Memᴰ r A × (laxity now r ≡ k + 1)
      go (inl e) = let s = has_mem (λ r. eqb (laxity now r) (k + 1)) A e in (s.0, s.1, eqb-true (laxity now s.0) (k + 1) s.2)
      go (inr e) = absurd (omega (arith, counts k h, count_has (λ r. eqb (laxity now r) (k + 1)) A e))

  -- a job has a count above 0, and its laxity is one more than a number
  pub one_less : (r : Job) → Memᴰ r A → (k : ℕ) × (laxity now r ≡ k + 1) × (k < longest_laxity) × (1 ≤ c k)
  one_less r m =
      let k = laxity now r - 1 in
      let e : laxity now r ≡ laxity now r - 1 + 1 = omega (arith, in_date r m) in
      let h : laxity now r - 1 < longest_laxity = omega (arith, short r m) in
      (k, e, h, omega (arith, counts k h, count_mem (λ q. eqb (laxity now q) (k + 1)) m (eq-eqb (laxity now r) (k + 1) e)))

  -- no counts, no jobs
  no_jobs : sum c longest_laxity ≡ 0 → A ≡ []
  no_jobs z = empty A refl
    where
      empty : (L : List Job) → A ≡ L → A ≡ []
      empty [] e = e
      empty (r ∷ L) e =
          let o = one_less r (subst (Memᴰ r) (sym e) (Memᴰ.head refl)) in
          absurd (omega (arith, z, sum_part c longest_laxity o.0 o.2, o.3))

  pub tight_found : {best : Option Best} → BestTo c longest_laxity best → best ≡ best_of now A
  unfolding best_of excess
  tight_found (none_yet s b) = rw (b, no_jobs s) refl
  tight_found (best_yet k h p b o f) =
      b
      ∙ ap₂ (λ l w. Some (record { excess = pos l -ℤ pos w; laxity = laxity_number l })) is (within (k + 1) (omega arith) ∙ ap (up_to now A) is)
      ∙ sym (best_some now A (a_job k h p).1)
    where
      is : k + 1 ≡ tight_laxity now A
      is =
          let r = a_job k h p in
          tight_laxity_only
          (record {
            present = r;
            least =
                λ q m.
                let l = one_less q m in
                rw l.1 (omega (arith, o l.0 l.2 l.3, within (l.0 + 1) (omega (arith, l.2)), within (k + 1) (omega arith)));
            first =
                λ q m i.
                let l = one_less q m in
                let i' : l.0 < k = omega (arith, l.1, i) in
                rw l.1 (omega (arith, f l.0 i' l.3, within (l.0 + 1) (omega (arith, l.2)), within (k + 1) (omega arith)));
          })
          (tight_laxity_is now A r.1)

  -- the least laxity of all is the first with a count above 0
  pub least_found : (k : ℕ) → k < longest_laxity → 1 ≤ c k → sum c k ≡ 0 → k + 1 ≡ least (laxities now A)
  unfolding laxities
  least_found k h p z =
      let (r, m, e) = a_job k h p in
      let i = Memᴰ.map (laxity now) m in
      let (q, j, f) = Memᴰ.of_map (laxity now) A (least_mem (map (laxity now) A) i) in
      let (x, l, s, o) = one_less q j in
      ⊎_elim (λ (y : k ≤ x). omega (arith, e, f, l, least_least (map (laxity now) A) i)) (λ (y : x < k). absurd (omega (arith, o, z, sum_part c k x y))) (cmp k x)

  pub least_none : sum c longest_laxity ≡ 0 → 0 ≡ least (laxities now A)
  unfolding laxities least
  least_none z = rw (no_jobs z) refl

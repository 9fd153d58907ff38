-- How many jobs share an admitted slot, seen from the count that the walk keeps.
use mathlib.Core.Path.{◌≡◌, sym, ap}
use mathlib.Core.Bool.{Bool, true, false, cond}
use mathlib.Core.Logic.{◌⊎◌, inl, inr}
use mathlib.Core.List.Memᴰ
use mathlib.Core.List.{List, ◌∷◌, map}
use Prim.Native.Nat.{ℕ, ◌+◌, ◌≤◌, ◌<◌}
use native.Mathlib.Omega.{arith}
use lib.Dec.{eqb}
use borrow.Author.Tests.{eq-eqb, ne_eqb}
use Rattle.lists.specs.Select.{one_if, how_many}
use Rattle.lists.specs.Rise.{never_fall}
use Rattle.lists.proofs.Tests.{cmp, test, cond_true, cond_false}
use Rattle.lists.proofs.Counting.{one_if_yes, one_if_no, count_none}
use Rattle.lists.proofs.Rising.{never_fall_above}
use Rattle.rule.specs.Job.{Job}
use Rattle.board.specs.declared.Place.{Place}
use Rattle.board.specs.Limits.{most_in_slot}
use Rattle.board.specs.Held.{job_in}
use Rattle.board.proofs.Soundness.Facts.{admitted_in}
use Rattle.soundness.specs.declared.Seen.{Seen}
use Rattle.soundness.specs.Inner.Walk.{sharing_with}

-- the jobs in some places, and their admitted slots
abbrev pub jobs : List Place → List Job
jobs l = map job_in l

abbrev pub slots : List Place → List ℕ
slots l = map (λ (r : Job). r.admitted) (jobs l)

-- of n jobs admitted in slot a, those admitted in slot k
unfoldable pub shares : (a n k : ℕ) → ℕ
shares a n k = cond (eqb k a) n 0

shares_same : (a n k : ℕ) → k ≡ a → shares a n k ≡ n
unfolding shares
shares_same a n k e = cond_true (eqb k a) n 0 (eq-eqb k a e)

shares_other : (a n k : ℕ) → a < k → shares a n k ≡ 0
unfolding shares
shares_other a n k h = cond_false (eqb k a) n 0 (ne_eqb k a (omega arith))

pub shares_most : (a n k : ℕ) → shares a n k ≤ n
unfolding shares
shares_most a n k = go (eqb k a)
  where
    go : (t : Bool) → cond t n 0 ≤ n
    go true = omega arith
    go false = omega arith

-- one job more, admitted in slot c
shares_more : (a n c k : ℕ) → a ≤ c → c ≤ k → shares c (shares a n c + 1) k ≡ shares a n k + one_if (eqb c k)
shares_more a n c k h g = go (cmp k c)
  where
    go : (k ≤ c) ⊎ (c < k) → shares c (shares a n c + 1) k ≡ shares a n k + one_if (eqb c k)
    go (inl e) =
        let same : k ≡ c = omega arith in
        omega (arith, shares_same c (shares a n c + 1) k same, ap (shares a n) same, one_if_yes (eqb c k) (eq-eqb c k (sym same)))
    go (inr e) = omega (arith, shares_other c (shares a n c + 1) k e, shares_other a n k (omega arith), one_if_no (eqb c k) (ne_eqb c k (omega arith)))

-- where admitted slots never fall, none is before the first
pub none_before : (k m : ℕ) (A : List Job) → never_fall m (map (λ (r : Job). r.admitted) A) ≡ true → k < m → admitted_in k A ≡ 0
none_before k m A h g =
    count_none _ A (λ r i. ne_eqb r.admitted k (omega (arith, never_fall_above m h (Memᴰ.map (λ (q : Job). q.admitted) i))))

-- the count that the walk keeps
pub sharing_is : (s : Seen) (x : Place) → sharing_with s x ≡ shares s.admitted.0 s.sharing x.admitted.0 + 1
unfolding sharing_with shares
sharing_is s x = go (test (eqb x.admitted.0 s.admitted.0))
  where
    go : (eqb x.admitted.0 s.admitted.0 ≡ true) ⊎ (eqb x.admitted.0 s.admitted.0 ≡ false)
        → sharing_with s x ≡ shares s.admitted.0 s.sharing x.admitted.0 + 1
    go (inl e) = rw e (omega arith)
    go (inr e) = rw e (omega arith)

pub sharing_most : (s : Seen) (x : Place) → sharing_with s x ≤ s.sharing + 1
sharing_most s x = omega (arith, sharing_is s x, shares_most s.admitted.0 s.sharing x.admitted.0)

-- the jobs of a slot, before and after the next job is seen
module _ (s : Seen) (x : Place) (l : List Place) (h : s.admitted.0 ≤ x.admitted.0) where
  pub shared_next : (k : ℕ) → x.admitted.0 ≤ k
      → shares x.admitted.0 (sharing_with s x) k + admitted_in k (jobs l) ≡ shares s.admitted.0 s.sharing k + admitted_in k (jobs (x ∷ l))
  unfolding how_many job_in
  shared_next k g =
      omega (
        arith,
        ap (λ n. shares x.admitted.0 n k) (sharing_is s x),
        shares_more s.admitted.0 s.sharing x.admitted.0 k h g,
      )

  pub few_before : s.sharing ≤ most_in_slot → never_fall x.admitted.0 (slots l) ≡ true
      → ((k : ℕ) → x.admitted.0 ≤ k → shares x.admitted.0 (sharing_with s x) k + admitted_in k (jobs l) ≤ most_in_slot)
      → (k : ℕ) → shares s.admitted.0 s.sharing k + admitted_in k (jobs (x ∷ l)) ≤ most_in_slot
  unfolding how_many job_in
  few_before m o f k = go (cmp x.admitted.0 k)
    where
      go : (x.admitted.0 ≤ k) ⊎ (k < x.admitted.0) → shares s.admitted.0 s.sharing k + admitted_in k (jobs (x ∷ l)) ≤ most_in_slot
      go (inl e) = omega (arith, shared_next k e, f k e)
      go (inr e) =
          omega (
            arith,
            shares_most s.admitted.0 s.sharing k,
            one_if_no (eqb x.admitted.0 k) (ne_eqb x.admitted.0 k (omega arith)),
            none_before k x.admitted.0 (jobs l) o e,
          )

-- On a sound board the jobs of its slot are those counted from the board's end.
use mathlib.Core.Path.{◌≡◌, refl, sym, ap, ◌∙◌}
use mathlib.Core.Bool.{Bool, true, false}
use mathlib.Core.Logic.{◌⊎◌, inl, inr}
use mathlib.Core.List.{List, [], ◌∷◌, map}
use Prim.Native.Nat.{ℕ, zero, suc, ◌≤◌, ◌<◌}
use native.Mathlib.Omega.{arith}
use lib.Dec.{leb, eqb}
use lib.ListN.{length, get_or, take, get_or-map}
use lib.Seq.{take_all, take-suc, get_or-take}
use borrow.Author.Tests.{leb-true, eqb-true, eqb-false, eq-eqb, ne_eqb}
use Rattle.lists.specs.Select.{how_many}
use Rattle.lists.specs.Rise.{never_fall}
use Rattle.lists.proofs.Tests.{test, and_left, and_right, cond_true, cond_false}
use Rattle.lists.proofs.Counting.{one_if_yes, one_if_no, count_append}
use Rattle.rule.specs.Job.{Job}
use Rattle.board.specs.declared.Board.{Board}
use Rattle.board.specs.Held.{slot_of, blank, job_in, used, held, in_slot}
use Rattle.board.specs.Sound.{sound}
use Rattle.board.proofs.Walk.{place_held}
use Rattle.board.proofs.Soundness.Facts.{admitted_in}
use Rattle.board.proofs.Soundness.Apart.{facts}
use Rattle.board.proofs.Soundness.HeldCount.{held_count}
use Rattle.admitting.specs.Inner.InLimits.{in_slot_before}

before_none : (b : Board) → in_slot_before b 0 ≡ 0
unfolding in_slot_before
before_none b = refl

-- one place more, of the slot or of another
module _ (b : Board) (n : ℕ) where
  abbrev same : Bool
  same = eqb (get_or b.places n blank).admitted.0 (slot_of b)

  pub before_more : (get_or b.places n blank).admitted.0 ≡ slot_of b → in_slot_before b (suc n) ≡ suc (in_slot_before b n)
  unfolding in_slot_before
  before_more e = cond_true same _ _ (eq-eqb _ _ e)

  pub before_no_more : ((get_or b.places n blank).admitted.0 ≡ slot_of b → ⊥) → in_slot_before b (suc n) ≡ 0
  unfolding in_slot_before
  before_no_more e = cond_false same _ _ (ne_eqb _ _ e)

-- where admitted slots never fall, a job admitted before a slot has only such jobs before it
before : (m k now : ℕ) (d : Job) (A : List Job) → never_fall m (map (λ (r : Job). r.admitted) A) ≡ true → k < length A → (get_or A k d).admitted < now
    → (m ≤ (get_or A k d).admitted) × (admitted_in now (take (suc k) A) ≡ 0)
unfolding never_fall how_many
before m k now d [] h i j = absurd (omega arith)
before m zero now d (a ∷ A) h i j =
    (leb-true m a.admitted (and_left (leb m a.admitted) _ h), omega (arith, one_if_no (eqb a.admitted now) (ne_eqb a.admitted now (omega arith))))
before m (suc k) now d (a ∷ A) h i j =
    let r = before a.admitted k now d A (and_right (leb m a.admitted) _ h) (omega arith) j in
    let first : m ≤ a.admitted = leb-true m a.admitted (and_left (leb m a.admitted) _ h) in
    (omega (arith, r.0), omega (arith, r.0, r.1, one_if_no (eqb a.admitted now) (ne_eqb a.admitted now (omega (arith, r.0)))))

-- the jobs of the board's slot in its first n places
abbrev in_first : Board → ℕ → ℕ
in_first b n = admitted_in (slot_of b) (take n (held b))

in_none : (b : Board) → in_first b 0 ≡ 0
unfolding how_many
in_none b = refl

module _ (b : Board) (s : sound b ≡ true) where
  jobs : length (held b) ≡ b.count
  jobs = let f = facts b s in held_count b (omega (arith, f.full, f.counted))

  job_at : (k : ℕ) → k < b.count → get_or (held b) k (job_in blank) ≡ job_in (get_or b.places k blank)
  unfolding held used
  job_at k h = get_or-map job_in (used b) k blank ∙ ap job_in (get_or-take b.count b.places k blank h)

  in_all : in_first b b.count ≡ in_slot b
  unfolding in_slot
  in_all = ap (admitted_in (slot_of b)) (take_all b.count (held b) (omega (arith, jobs)))

  -- one place more, with a job of the slot
  in_more : (k : ℕ) → k < b.count → (get_or b.places k blank).admitted.0 ≡ slot_of b → in_first b (suc k) ≡ suc (in_first b k)
  unfolding how_many job_in
  in_more k h e =
      let r = get_or (held b) k (job_in blank) in
      let now : r.admitted ≡ slot_of b = ap (λ (q : Job). q.admitted) (job_at k h) ∙ e in
      omega (
        arith,
        ap (admitted_in (slot_of b)) (take-suc (held b) k (job_in blank) (omega (arith, jobs))),
        count_append (λ (q : Job). eqb q.admitted (slot_of b)) (take k (held b)) (r ∷ []),
        one_if_yes (eqb r.admitted (slot_of b)) (eq-eqb r.admitted (slot_of b) now),
      )

  -- a job of another slot, and none of the slot before it
  in_no_more : (k : ℕ) → k < b.count → ((get_or b.places k blank).admitted.0 ≡ slot_of b → ⊥) → in_first b (suc k) ≡ 0
  unfolding job_in
  in_no_more k h e =
      let f = facts b s in
      let r = get_or (held b) k (job_in blank) in
      let then : r.admitted ≡ (get_or b.places k blank).admitted.0 = ap (λ (q : Job). q.admitted) (job_at k h) in
      let inside : k < length (held b) = omega (arith, jobs) in
      let begun = (f.each _ (place_held b k h (omega (arith, f.full, f.counted)))).begun in
      (before 1 k (slot_of b) (job_in blank) (held b) f.slots_in_order inside (omega arith)).1

  -- so the count from the end is the count
  before_is : (n : ℕ) → n ≤ b.count → in_slot_before b n ≡ in_first b n
  before_is zero h = before_none b ∙ sym (in_none b)
  before_is (suc n) h = go (test (same b n)) (before_is n (omega arith))
    where
      go : (same b n ≡ true) ⊎ (same b n ≡ false) → in_slot_before b n ≡ in_first b n → in_slot_before b (suc n) ≡ in_first b (suc n)
      go (inl e) i = let q = eqb-true _ _ e in before_more b n q ∙ ap suc i ∙ sym (in_more n (omega arith) q)
      go (inr e) i = let q = eqb-false _ _ e in before_no_more b n q ∙ sym (in_no_more n (omega arith) q)

  pub in_slot_is : in_slot_before b b.count ≡ in_slot b
  in_slot_is = before_is b.count (omega arith) ∙ in_all

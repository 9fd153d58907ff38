-- A walk along a list that selects the elements that pass a test, and may fill other lists from their start with what these elements have.
use mathlib.Core.Path.{◌≡◌, refl, sym, ap, ◌∙◌}
use mathlib.Core.Bool.{Bool, true, false}
use mathlib.Core.Logic.{⊎_elim}
use mathlib.Core.List.{List, [], ◌∷◌, ◌++◌, map, map-append, append-nil}
use Prim.Native.Nat.{ℕ, suc, ◌+◌, ◌≤◌, ◌<◌, min}
use native.Mathlib.Numerals.{add-one}
use native.Mathlib.Omega.{arith}
use lib.ListN.{length, get_or, take, drop, set, length-append, length-map, length-set}
use lib.Seq.{take-suc, take_all, drop-cons, set_at, append_snoc}
use Rattle.lists.specs.Select.{select}
use Rattle.lists.proofs.Tests.{cmp}
use Rattle.lists.proofs.Members.{select_yes, select_no, select_append}

-- a number past the end of a list takes all of it
pub take_least : {A : Type 0} (i n : ℕ) (l : List A) → i ≡ min n (length l) → take i l ≡ take n l
take_least i n l e =
    ⊎_elim (λ (h : n ≤ length l). let k : i ≡ n = omega arith in ap (λ m. take m l) k)
    (λ (h : length l < n). take_all i l (omega arith) ∙ sym (take_all n l (omega arith)))
    (cmp n (length l))

module _ {A : Type 0} (p : A → Bool) (l : List A) where
  -- those of the first i elements that pass
  unfoldable pub passed : ℕ → List A
  passed i = select p (take i l)

  -- the list `before` with f of each of those from its start: later entries keep what they had
  pub record Filled {B : Type 0} (f : A → B) (i : ℕ) (before after : List B) : Type 0 where
    pub filled : after ≡ map f (passed i) ++ drop (length (passed i)) before
    pub long : length after ≡ length before

  pub passed_none : passed 0 ≡ []
  unfolding passed select
  passed_none = refl

  pub passed_all : (i n : ℕ) → i ≡ min n (length l) → passed i ≡ select p (take n l)
  unfolding passed
  passed_all i n e = ap (select p) (take_least i n l e)

  pub filled_none : {B : Type 0} (f : A → B) (before : List B) → Filled f 0 before before
  unfolding passed select
  filled_none f before = record { filled = refl; long = refl }

  module _ (i : ℕ) (d : A) (h : i < length l) where
    one_more : passed (i + 1) ≡ passed i ++ select p (get_or l i d ∷ [])
    unfolding passed
    one_more = rw (add-one, take-suc l i d) (select_append p (take i l) (get_or l i d ∷ []))

    -- the next element fails
    module _ (fails : p (get_or l i d) ≡ false) where
      pub passed_same : passed (i + 1) ≡ passed i
      unfolding select
      passed_same = one_more ∙ ap (passed i ++◌) (select_no p (get_or l i d) [] fails) ∙ append-nil (passed i)

      pub filled_same : {B : Type 0} {f : A → B} {before after : List B} → Filled f i before after → Filled f (i + 1) before after
      filled_same e = record { filled = rw passed_same e.filled; long = e.long }

    -- the next element passes
    module _ (passes : p (get_or l i d) ≡ true) where
      pub passed_more : passed (i + 1) ≡ passed i ++ (get_or l i d ∷ [])
      unfolding select
      passed_more = one_more ∙ ap (passed i ++◌) (select_yes p (get_or l i d) [] passes)

      pub filled_more : {B : Type 0} {f : A → B} {n : ℕ} {before after : List B} → n ≡ length (passed i) → n < length before → Filled f i before after
          → Filled f (i + 1) before (set after n (f (get_or l i d)))
      filled_more {f = f} {n} {before} {after} c r e =
          let x = f (get_or l i d) in
          record {
            filled =
                ap (λ k. set k n x) e.filled
                ∙ rw (← c, drop-cons before n (f d))
                (set_at (map f (passed i)) (get_or before n (f d)) (drop (suc n) before) x n (length-map (passed i) f ∙ sym c)
                ∙ sym (append_snoc (map f (passed i)) x (drop (suc n) before))
                ∙ rw passed_more (simp (map-append, length-append, add-one, c)));
            long = length-set after n x ∙ e.long;
          }

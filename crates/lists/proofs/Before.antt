-- Laws of what stands before the first x of a list.
use mathlib.Core.Path.{◌≡◌, refl, sym, ap, ◌∙◌}
use mathlib.Core.Bool.{true, false, not}
use mathlib.Core.List.{List, [], ◌∷◌, ◌++◌}
use mathlib.Core.Logic.{◌⊎◌, inl, inr}
use Prim.Native.Nat.{ℕ, suc, ◌+◌, ◌≤◌, ◌<◌}
use native.Mathlib.Numerals.{add-one, one-add}
use native.Mathlib.Omega.{arith}
use borrow.Author.Tests.{ltb-false, eqb-true, eq-eqb, ne_eqb}
use lib.Dec.{eqb}
use Rattle.std.proofs.Common.{Bool, cond, Option, ltb, Some, None}
use Rattle.std.specs.List.{slice_range, position, position_or_len}
use Rattle.std.specs.Option.{unwrap_or}
use Rattle.std.proofs.lemmas.List.Recursion.{is_position_or_len}
use lib.ListN.{length, get_or, take, drop, drop_of_length-le, length-drop}
use lib.Seq.{drop-cons, take-length}
use Rattle.lists.specs.Select.{every}
use Rattle.lists.specs.Before.{before}
use Rattle.lists.proofs.Tests.{test, cond_true, cond_false, and_intro}

module _ (x y : ℕ) (l : List ℕ) where
  pub before_here : eqb y x ≡ true → before x (y ∷ l) ≡ 0
  unfolding before
  before_here h = cond_true (eqb y x) _ _ h

  pub before_later : eqb y x ≡ false → before x (y ∷ l) ≡ suc (before x l)
  unfolding before
  before_later h = cond_false (eqb y x) _ _ h

-- std's word for it
pub before_is : (x : ℕ) (l : List ℕ) → before x l ≡ position_or_len (λ y. eqb y x) l
unfolding before
before_is x l = is_position_or_len (before x) (λ y. eqb y x) refl (λ y r. rw one-add refl) l

pub before_within : (x : ℕ) (l : List ℕ) → before x l ≤ length l
unfolding before
before_within x [] = omega arith
before_within x (y ∷ l) = go (test (eqb y x)) (before_within x l)
  where
    go : (eqb y x ≡ true) ⊎ (eqb y x ≡ false) → before x l ≤ length l → before x (y ∷ l) ≤ length (y ∷ l)
    go (inl h) e = omega (arith, before_here x y l h)
    go (inr h) e = omega (arith, before_later x y l h)

pub before_place : (x : ℕ) (l : List ℕ) → unwrap_or (position (λ y. eqb y x) l) (length l) ≡ before x l
before_place x l = go (ltb (position_or_len (λ y. eqb y x) l) (length l)) refl
  where
    go : (t : Bool) → ltb (position_or_len (λ y. eqb y x) l) (length l) ≡ t → unwrap_or (cond t (Some (position_or_len (λ y. eqb y x) l)) None) (length l) ≡ before x l
    go true e = sym (before_is x l)
    go false e = omega (arith, ltb-false, before_is x l, before_within x l)

-- in what is left of the bytes from a place on
pub next_place : (x from : ℕ) (bytes rest : List ℕ) (o : Option ℕ) → rest ≡ slice_range bytes from (length bytes) → o ≡ position (λ y. eqb y x) rest
    → unwrap_or o (length rest) ≡ before x (drop from bytes)
next_place x from bytes rest o r p =
    let left : rest ≡ drop from bytes = r ∙ ap (λ (n : ℕ). take n (drop from bytes)) (sym (length-drop from bytes)) ∙ take-length (drop from bytes) in
    ap (λ (q : Option ℕ). unwrap_or q (length rest)) p ∙ before_place x rest ∙ ap (before x) left

-- none of them is x
pub before_other : (x : ℕ) (l : List ℕ) → every (λ y. not (eqb y x)) (take (before x l) l) ≡ true
unfolding before every
before_other x [] = refl
before_other x (y ∷ l) = go (test (eqb y x)) (before_other x l)
  where
    go : (eqb y x ≡ true) ⊎ (eqb y x ≡ false) → every (λ z. not (eqb z x)) (take (before x l) l) ≡ true
        → every (λ z. not (eqb z x)) (take (before x (y ∷ l)) (y ∷ l)) ≡ true
    go (inl h) e = ap (λ (n : ℕ). every (λ z. not (eqb z x)) (take n (y ∷ l))) (before_here x y l h)
    go (inr h) e =
        ap (λ (n : ℕ). every (λ z. not (eqb z x)) (take n (y ∷ l))) (before_later x y l h)
        ∙ and_intro (not (eqb y x)) (every (λ z. not (eqb z x)) (take (before x l) l)) (ap not h) e

-- x stands behind them, if anything does
pub before_found : (x : ℕ) (l : List ℕ) → before x l < length l → get_or l (before x l) 0 ≡ x
unfolding before
before_found x [] h = absurd (omega arith)
before_found x (y ∷ l) h = go (test (eqb y x)) (before_found x l)
  where
    go : (eqb y x ≡ true) ⊎ (eqb y x ≡ false) → (before x l < length l → get_or l (before x l) 0 ≡ x) → get_or (y ∷ l) (before x (y ∷ l)) 0 ≡ x
    go (inl e) ih = ap (λ (n : ℕ). get_or (y ∷ l) n 0) (before_here x y l e) ∙ eqb-true y x e
    go (inr e) ih = ap (λ (n : ℕ). get_or (y ∷ l) n 0) (before_later x y l e) ∙ ih (omega (arith, before_later x y l e))

-- from a place of the list on
module _ (x : ℕ) (l : List ℕ) (at : ℕ) (h : at < length l) where
  next : drop at l ≡ get_or l at 0 ∷ drop (at + 1) l
  next = rw (add-one, drop-cons l at 0)

  pub before_at : get_or l at 0 ≡ x → before x (drop at l) ≡ 0
  before_at e = ap (before x) next ∙ before_here x _ _ (eq-eqb _ _ e)

  pub before_on : (get_or l at 0 ≡ x → ⊥) → before x (drop at l) ≡ suc (before x (drop (at + 1) l))
  before_on e = ap (before x) next ∙ before_later x _ _ (ne_eqb _ _ e)

pub before_past : (x : ℕ) (l : List ℕ) (at : ℕ) → length l ≤ at → before x (drop at l) ≡ 0
unfolding before
before_past x l at h = ap (before x) (drop_of_length-le l h)

-- with more behind the list no fewer stand before x, and as many where x is in the list
pub before_longer : (x : ℕ) (l more : List ℕ) → before x l ≤ before x (l ++ more)
unfolding before
before_longer x [] more = omega arith
before_longer x (y ∷ l) more = go (test (eqb y x)) (before_longer x l more)
  where
    go : (eqb y x ≡ true) ⊎ (eqb y x ≡ false) → before x l ≤ before x (l ++ more) → before x (y ∷ l) ≤ before x (y ∷ (l ++ more))
    go (inl e) h = omega (arith, before_here x y l e)
    go (inr e) h = omega (arith, before_later x y l e, before_later x y (l ++ more) e)

pub before_same : (x : ℕ) (l more : List ℕ) → before x l < length l → before x (l ++ more) ≡ before x l
unfolding before
before_same x [] more h = absurd (omega arith)
before_same x (y ∷ l) more h = go (test (eqb y x)) (before_same x l more)
  where
    go : (eqb y x ≡ true) ⊎ (eqb y x ≡ false) → (before x l < length l → before x (l ++ more) ≡ before x l) → before x (y ∷ (l ++ more)) ≡ before x (y ∷ l)
    go (inl e) g = before_here x y (l ++ more) e ∙ sym (before_here x y l e)
    go (inr e) g = before_later x y (l ++ more) e ∙ ap suc (g (omega (arith, before_later x y l e))) ∙ sym (before_later x y l e)

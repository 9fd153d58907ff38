-- A line's first field, and the fields behind it.
use mathlib.Core.Path.{◌≡◌, refl, sym, ap, ◌∙◌}
use mathlib.Core.List.{List, [], ◌∷◌}
use mathlib.Core.Bool.{true, false}
use mathlib.Core.Logic.{◌⊎◌, inl, inr}
use Prim.Native.Nat.{ℕ, zero, suc, ◌+◌, ◌-◌, ◌≤◌, ◌<◌}
use native.Mathlib.Numerals.{add-one}
use native.Mathlib.Omega.{arith}
use lib.Dec.{eqb}
use denote.Ref.{Bor}
use Rattle.std.specs.Prelude.{Option, Some, None}
use Rattle.std.specs.Option.{unwrap_or}
use Rattle.std.specs.List.{PartBy}
use lib.ListN.{length, get_or, take, drop, drop_of_length-le, length-take, length-drop}
use lib.Seq.{drop-cons}
use borrow.Author.Tests.{eq-eqb, ne_eqb}
use Rattle.lists.specs.Before.{before}
use Rattle.lists.proofs.Before.{before_here, before_later, before_within}
use Rattle.lists.proofs.Tests.{test, cond_true, cond_false}
use Rattle.lines.specs.Bytes.{Bytes, comma, onto_first, fields}
use Rattle.lines.specs.Reading.{field}

-- a line has a first field
some_field : (l : Bytes) → (f : Bytes) × (fs : List Bytes) × (fields l ≡ f ∷ fs)
unfolding fields onto_first
some_field [] = ([], [], refl)
some_field (b ∷ bs) = go (test (eqb b comma)) (some_field bs)
  where
    go : (eqb b comma ≡ true) ⊎ (eqb b comma ≡ false)
        → (f : Bytes) × (fs : List Bytes) × (fields bs ≡ f ∷ fs)
        → (f : Bytes) × (fs : List Bytes) × (fields (b ∷ bs) ≡ f ∷ fs)
    go (inl h) r = ([], fields bs, cond_true (eqb b comma) _ _ h)
    go (inr h) r = (b ∷ r.0, r.1, cond_false (eqb b comma) _ _ h ∙ ap (onto_first b) r.2)

pub some_count : (l : Bytes) → 1 ≤ length (fields l)
some_count l = omega (arith, ap length (some_field l).2)

-- a comma parts the fields
module _ (b : ℕ) (bs : Bytes) (h : eqb b comma ≡ true) where
  fields_comma : fields (b ∷ bs) ≡ [] ∷ fields bs
  unfolding fields
  fields_comma = cond_true (eqb b comma) _ _ h

-- any other byte belongs to the first field
module _ (b : ℕ) (bs : Bytes) (h : eqb b comma ≡ false) where
  fields_other : fields (b ∷ bs) ≡ onto_first b (fields bs)
  unfolding fields
  fields_other = cond_false (eqb b comma) _ _ h

  first_other : field 0 (b ∷ bs) ≡ b ∷ field 0 bs
  unfolding field onto_first
  first_other = simp (fields_other, (some_field bs).2)

  later_other : (n : ℕ) → field (suc n) (b ∷ bs) ≡ field (suc n) bs
  unfolding field onto_first
  later_other n = simp (fields_other, (some_field bs).2)

  count_other : length (fields (b ∷ bs)) ≡ length (fields bs)
  unfolding onto_first
  count_other = simp (fields_other, (some_field bs).2)

-- the first field is what stands before the first comma
pub first_field : (l : Bytes) → take (before comma l) l ≡ field 0 l
unfolding before field fields
first_field [] = refl
first_field (b ∷ bs) = go (test (eqb b comma)) (first_field bs)
  where
    go : (eqb b comma ≡ true) ⊎ (eqb b comma ≡ false) → take (before comma bs) bs ≡ field 0 bs → take (before comma (b ∷ bs)) (b ∷ bs) ≡ field 0 (b ∷ bs)
    go (inl h) e = simp (before_here comma b bs h, fields_comma b bs h)
    go (inr h) e = ap (λ (n : ℕ). take n (b ∷ bs)) (before_later comma b bs h) ∙ ap (b ∷◌) e ∙ sym (first_other b bs h)

pub first_length : (l : Bytes) → length (field 0 l) ≡ before comma l
first_length l = omega (arith, ap length (first_field l), length-take (before comma l) l, before_within comma l)

-- no bytes have no field but a blank one
pub field_none : (n : ℕ) → field n [] ≡ []
unfolding field fields
field_none zero = refl
field_none (suc n) = refl

-- the fields behind the first are those of the bytes behind its comma
pub behind : (n : ℕ) (l : Bytes) → field (suc n) l ≡ field n (drop (suc (before comma l)) l)
unfolding field fields
behind n [] = field_none (suc n) ∙ sym (field_none n)
behind n (b ∷ bs) = go (test (eqb b comma)) (behind n bs)
  where
    go : (eqb b comma ≡ true) ⊎ (eqb b comma ≡ false) → field (suc n) bs ≡ field n (drop (suc (before comma bs)) bs)
        → field (suc n) (b ∷ bs) ≡ field n (drop (suc (before comma (b ∷ bs))) (b ∷ bs))
    go (inl h) e = simp (before_here comma b bs h, fields_comma b bs h)
    go (inr h) e = later_other b bs h n ∙ e ∙ ap (λ (k : ℕ). field n (drop (suc k) (b ∷ bs))) (sym (before_later comma b bs h))

-- there are some where it does not end the line
pub count_behind : (l : Bytes) → before comma l < length l → length (fields l) ≡ suc (length (fields (drop (suc (before comma l)) l)))
count_behind [] k = absurd (omega arith)
count_behind (b ∷ bs) k = go (test (eqb b comma)) (count_behind bs)
  where
    go : (eqb b comma ≡ true) ⊎ (eqb b comma ≡ false)
        → (before comma bs < length bs → length (fields bs) ≡ suc (length (fields (drop (suc (before comma bs)) bs))))
        → length (fields (b ∷ bs)) ≡ suc (length (fields (drop (suc (before comma (b ∷ bs))) (b ∷ bs))))
    go (inl h) e = simp (before_here comma b bs h, fields_comma b bs h)
    go (inr h) e =
        let s = before_later comma b bs h in
        count_other b bs h ∙ e (omega arith) ∙ ap (λ (i : ℕ). suc (length (fields (drop (suc i) (b ∷ bs))))) (sym s)

-- and else none
pub count_last : (l : Bytes) → length l ≤ before comma l → length (fields l) ≡ 1
unfolding fields
count_last [] k = refl
count_last (b ∷ bs) k = go (test (eqb b comma)) (count_last bs)
  where
    go : (eqb b comma ≡ true) ⊎ (eqb b comma ≡ false) → (length bs ≤ before comma bs → length (fields bs) ≡ 1) → length (fields (b ∷ bs)) ≡ 1
    go (inl h) e = absurd (omega (arith, before_here comma b bs h))
    go (inr h) e = let s = before_later comma b bs h in count_other b bs h ∙ e (omega arith)

-- the first field from a place of a line on, one byte further
module _ (l : Bytes) (at : ℕ) where
  pub first_past : length l ≤ at → field 0 (drop at l) ≡ []
  first_past h = ap (field 0) (drop_of_length-le l h) ∙ field_none 0

  module _ (h : at < length l) where
    step : drop at l ≡ get_or l at 0 ∷ drop (at + 1) l
    step = rw (add-one, drop-cons l at 0)

    pub first_comma : get_or l at 0 ≡ comma → field 0 (drop at l) ≡ []
    unfolding field
    first_comma e = ap (field 0) step ∙ simp (fields_comma (get_or l at 0) (drop (at + 1) l) (eq-eqb _ _ e))

    pub first_on : (get_or l at 0 ≡ comma → ⊥) → field 0 (drop at l) ≡ get_or l at 0 ∷ field 0 (drop (at + 1) l)
    first_on e = ap (field 0) step ∙ first_other _ _ (ne_eqb _ _ e)

-- The bytes of a line from where a field begins to where it ends, or none where there is no such range: the field.
module _ (l : Bytes) (at end : ℕ) (e : end ≡ at + before comma (drop at l)) where
  pub field_between : (o : Option (Bor Bytes)) (none b : Bor Bytes) → none.now ≡ [] → b ≡ unwrap_or o none → PartBy (λ (x : Bor Bytes). x.now) l at end o → b.now ≡ field 0 (drop at l)
  field_between None none b z r m =
      let k : length l ≤ at = omega (arith, m.0, before_within comma (drop at l), length-drop at l) in
      ap (λ (x : Bor Bytes). x.now) r ∙ z ∙ sym (first_past l at k)
  field_between (Some x) none b z r m =
      let k : end - at ≡ before comma (drop at l) = omega (arith, e) in
      ap (λ (x : Bor Bytes). x.now) r ∙ m.0.2 ∙ ap (λ (n : ℕ). take n (drop at l)) k ∙ first_field (drop at l)

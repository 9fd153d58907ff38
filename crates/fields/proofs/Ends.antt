-- The places of a line where its fields end, one behind the other: what the fields are, and how many.
use mathlib.Core.Path.{◌≡◌, ap, ◌∙◌}
use mathlib.Core.Logic.{◌⊎◌, inl, inr}
use Prim.Native.Nat.{ℕ, zero, suc, ◌+◌, ◌≤◌, ◌<◌, max}
use native.Mathlib.Omega.{arith}
use lib.Dec.{eqb}
use lib.ListN.{length, drop, length-drop}
use lib.Seq.{drop-drop}
use borrow.Author.Tests.{eqb-true, eq-eqb}
use Rattle.lists.specs.Before.{before}
use Rattle.lists.proofs.Before.{before_within}
use Rattle.lists.proofs.Tests.{cmp, same_test}
use Rattle.lines.specs.Bytes.{Bytes, comma, fields}
use Rattle.lines.specs.Reading.{field}
use Rattle.fields.proofs.Commas.{some_count, behind, count_behind, count_last}

-- where the field ends that begins at this place; where the n-th behind it ends
abbrev pub end_of : Bytes → ℕ → ℕ
end_of l s = s + before comma (drop s l)

unfoldable pub ends : Bytes → ℕ → ℕ → ℕ
ends l zero s = end_of l s
ends l (suc n) s = ends l n (end_of l s + 1)

module _ (l : Bytes) (s : ℕ) where
  pub end_within : end_of l s ≤ max s (length l)
  end_within = omega (arith, before_within comma (drop s l), length-drop s l)

  -- the bytes behind the field's comma
  rest : drop (suc (before comma (drop s l))) (drop s l) ≡ drop (end_of l s + 1) l
  rest =
      let e : s + suc (before comma (drop s l)) ≡ end_of l s + 1 = omega arith in
      drop-drop (suc (before comma (drop s l))) s l ∙ ap (λ (k : ℕ). drop k l) e

  pub next_field : (n : ℕ) → field (suc n) (drop s l) ≡ field n (drop (end_of l s + 1) l)
  next_field n = behind n (drop s l) ∙ ap (field n) rest

  more : end_of l s < length l → length (fields (drop s l)) ≡ suc (length (fields (drop (end_of l s + 1) l)))
  more h = count_behind (drop s l) (omega (arith, length-drop s l)) ∙ ap (λ (r : Bytes). suc (length (fields r))) rest

  last : length l ≤ end_of l s → length (fields (drop s l)) ≡ 1
  last h = count_last (drop s l) (omega (arith, length-drop s l))

-- past the end of the line no field ends it
beyond : (l : Bytes) (n s : ℕ) → length l < s → length l < ends l n s
unfolding ends
beyond l zero s h = omega arith
beyond l (suc n) s h = beyond l n (end_of l s + 1) (omega arith)

-- the n-th field behind this one ends the line, or not, as there are so many
module _ (l : Bytes) where
  ended : (n s : ℕ) → s ≤ length l → ends l n s ≡ length l → length (fields (drop s l)) ≡ suc n
  unfolding ends
  ended zero s h e = last l s (omega arith)
  ended (suc n) s h e = go (cmp (length l) (end_of l s)) (ended n (end_of l s + 1))
    where
      go : (length l ≤ end_of l s) ⊎ (end_of l s < length l)
          → (end_of l s + 1 ≤ length l → ends l n (end_of l s + 1) ≡ length l → length (fields (drop (end_of l s + 1) l)) ≡ suc n)
          → length (fields (drop s l)) ≡ suc (suc n)
      go (inl k) r = absurd (omega (arith, beyond l n (end_of l s + 1) (omega arith)))
      go (inr k) r = more l s k ∙ ap suc (r (omega arith) e)

  ending : (n s : ℕ) → s ≤ length l → length (fields (drop s l)) ≡ suc n → ends l n s ≡ length l
  unfolding ends
  ending zero s h e = go (cmp (length l) (end_of l s))
    where
      go : (length l ≤ end_of l s) ⊎ (end_of l s < length l) → end_of l s ≡ length l
      go (inl k) = omega (arith, end_within l s)
      go (inr k) = absurd (omega (arith, more l s k, some_count (drop (end_of l s + 1) l)))
  ending (suc n) s h e = go (cmp (length l) (end_of l s)) (ending n (end_of l s + 1))
    where
      go : (length l ≤ end_of l s) ⊎ (end_of l s < length l)
          → (end_of l s + 1 ≤ length l → length (fields (drop (end_of l s + 1) l)) ≡ suc n → ends l n (end_of l s + 1) ≡ length l)
          → ends l n (end_of l s + 1) ≡ length l
      go (inl k) r = absurd (omega (arith, last l s k))
      go (inr k) r = r (omega arith) (omega (arith, more l s k))

  -- of a whole line
  pub whole : (n : ℕ) → eqb (ends l n 0) (length l) ≡ eqb (length (fields l)) (suc n)
  whole n =
      same_test (eqb (ends l n 0) (length l)) (eqb (length (fields l)) (suc n))
      (λ h. eq-eqb _ _ (ended n 0 (omega arith) (eqb-true _ _ h)))
      (λ h. eq-eqb _ _ (ending n 0 (omega arith) (eqb-true _ _ h)))

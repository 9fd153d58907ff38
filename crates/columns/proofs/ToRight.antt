-- Laws of bytes to the right, and of a number's digits put into columns from the last one on.
use mathlib.Core.Path.{◌≡◌, refl, sym, ap, ◌∙◌}
use mathlib.Core.Bool.{Bool, true, false, cond}
use mathlib.Core.Logic.{⊎_elim}
use mathlib.Core.List.{[], ◌∷◌, ◌++◌, append-nil, append_assoc}
use Prim.Native.Nat.{ℕ, suc, ◌+◌, ◌/◌, ◌%◌, ◌≤◌, ◌<◌}
use native.Mathlib.Numerals.{add-one}
use native.Mathlib.Omega.{arith}
use lib.Dec.{eqb}
use lib.ListN.{length, drop, set, replicate, length-append, length-drop, length-replicate, replicate-append-replicate}
use lib.Seq.{drop-append-le, drop-length}
use borrow.Author.Tests.{eqb-true, ne_eqb}
use Rattle.lists.proofs.Tests.{cmp, and_right, cond_false}
use Rattle.lines.specs.Bytes.{Bytes}
use Rattle.lines.specs.Printing.{decimal}
use Rattle.lines.specs.Sheet.{space, to_right}
use Rattle.buffer.specs.Puts.{put}
use Rattle.lines.proofs.Decimals.{decimal_one, decimal_more}
use Rattle.buffer.proofs.Puts.{put_last}
use Rattle.columns.specs.Inner.Digits.{no_digit, digits_left, column_byte}

-- as many bytes as there are columns
pub to_right_length : (w : ℕ) (bs : Bytes) → length (to_right w bs) ≡ w
unfolding to_right
to_right_length w bs =
    let all = replicate w space ++ bs in
    omega (arith, length-drop (length bs) all, length-append (replicate w space) bs, length-replicate w space)

-- in no column nothing
pub to_right_nowhere : (bs : Bytes) → to_right 0 bs ≡ []
unfolding to_right
to_right_nowhere bs = drop-length bs

-- the last byte stands in the last column
to_right_last : (i : ℕ) (bs : Bytes) (x : ℕ) → to_right (suc i) (bs ++ (x ∷ [])) ≡ to_right i bs ++ (x ∷ [])
unfolding to_right
to_right_last i bs x =
    let n : length (bs ++ (x ∷ [])) ≡ suc (length bs) = omega (arith, length-append bs (x ∷ [])) in
    let few : length bs ≤ length (replicate i space ++ bs) = omega (arith, length-append (replicate i space) bs) in
    rw n (ap (drop (length bs)) (sym (append_assoc (replicate i space) bs (x ∷ []))) ∙ drop-append-le (length bs) (replicate i space ++ bs) (x ∷ []) few)

-- where there are no bytes, a space
to_right_space : (i : ℕ) → to_right (suc i) [] ≡ to_right i [] ++ (space ∷ [])
unfolding to_right
to_right_space i = rw (append-nil (replicate (suc i) space), append-nil (replicate i space)) (sym (rw add-one at (replicate-append-replicate i 1 space)))

-- once the digits have begun: those of a number that is not 0, and none of 0
some_digits : (n : ℕ) → 1 ≤ n → digits_left true n ≡ decimal n
unfolding digits_left no_digit
some_digits n h = cond_false _ _ _ (ne_eqb n 0 (λ e. omega arith))

no_digits : (n : ℕ) → n ≡ 0 → digits_left true n ≡ []
unfolding digits_left no_digit
no_digits n e = rw e

-- before that: all of them
pub all_digits : (n : ℕ) → digits_left false n ≡ decimal n
unfolding digits_left no_digit
all_digits n = refl

-- the last digit of a number, and the others
last_digit : (n : ℕ) → decimal n ≡ digits_left true (n / 10) ++ ((48 + n % 10) ∷ [])
last_digit n =
    ⊎_elim
    (λ (h : 10 ≤ n). decimal_more n h ∙ ap (λ (bs : Bytes). bs ++ ((48 + n % 10) ∷ [])) (sym (some_digits (n / 10) (omega arith))))
    (λ (h : n < 10). let e : n % 10 ≡ n = omega arith in rw (no_digits (n / 10) (omega arith), e) (decimal_one n h))
    (cmp 10 n)

-- what is left to stand in a column more
next_column : (begun : Bool) (i n : ℕ) → to_right (suc i) (digits_left begun n) ≡ to_right i (digits_left true (n / 10)) ++ (column_byte begun n ∷ [])
unfolding digits_left column_byte no_digit
next_column begun i n = go (no_digit begun n) refl
  where
    go : (b : Bool) → no_digit begun n ≡ b
        → to_right (suc i) (cond b [] (decimal n)) ≡ to_right i (digits_left true (n / 10)) ++ (cond b space (48 + n % 10) ∷ [])
    go true e = rw (no_digits (n / 10) (omega (arith, eqb-true n 0 (and_right begun (eqb n 0) e)))) (to_right_space i)
    go false e = ap (to_right (suc i)) (last_digit n) ∙ to_right_last i (digits_left true (n / 10)) (48 + n % 10)

-- one column more is written
pub put_column : (out : Bytes) (at i : ℕ) (begun : Bool) (n : ℕ) → at + i < length out
    → put (set out (at + i) (column_byte begun n)) at (to_right i (digits_left true (n / 10))) ≡ put out at (to_right (suc i) (digits_left begun n))
put_column out at i begun n h =
    let cs = to_right i (digits_left true (n / 10)) in
    let e : length cs ≡ i = to_right_length i (digits_left true (n / 10)) in
    let last = put_last out at cs (column_byte begun n) (omega arith) in
    rw (next_column begun i n) (rw e at last)

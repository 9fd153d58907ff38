-- Bytes put to the right in a field: as many as the field has columns, and spaces before them where they are fewer.
use mathlib.Core.Path.{◌≡◌, refl, ap, ◌∙◌}
use mathlib.Core.Bool.{Bool, true, not}
use mathlib.Core.List.{[], ◌∷◌, ◌++◌}
use Prim.Native.Nat.{ℕ, zero, suc, ◌-◌, ◌≤◌}
use native.Mathlib.Omega.{arith}
use lib.Dec.{eqb}
use lib.ListN.{length, replicate, length-append, length-drop, length-replicate}
use lib.Seq.{drop-append-le}
use borrow.Author.Tests.{not-true}
use Rattle.lists.specs.Select.{every}
use Rattle.lists.proofs.Tests.{and_left, cond_false}
use Rattle.lists.proofs.Members.{every_append}
use Rattle.lists.proofs.Every.{every_drop, every_replicate}
use Rattle.lists.proofs.Parts.{drop_replicate}
use Rattle.lines.specs.Bytes.{Bytes}
use Rattle.lines.specs.Printing.{decimal}
use Rattle.lines.specs.Fields.{is_digit}
use Rattle.lines.specs.Sheet.{space, to_right}
use Rattle.lines.specs.SheetReadBack.{past_spaces}
use Rattle.lines.proofs.Decimals.{other_digits}

module _ (w : ℕ) (bs : Bytes) where
  pub right_length : length (to_right w bs) ≡ w
  unfolding to_right
  right_length =
      omega (
        arith,
        length-drop (length bs) (replicate w space ++ bs),
        length-append (replicate w space) bs,
        length-replicate w space,
      )

  pub right_short : length bs ≤ w → to_right w bs ≡ replicate (w - length bs) space ++ bs
  unfolding to_right
  right_short h =
      drop-append-le (length bs) (replicate w space) bs (omega (arith, length-replicate w space))
      ∙ ap (◌++ bs) (drop_replicate (length bs) w space)

  -- a test that a space and each of the bytes pass
  pub right_every : (p : ℕ → Bool) → p space ≡ true → every p bs ≡ true → every p (to_right w bs) ≡ true
  unfolding to_right
  right_every p s h = every_drop p (length bs) (replicate w space ++ bs) (every_append p (replicate w space) bs (every_replicate p w space s) h)

-- without the spaces before them
past_none : (bs : Bytes) → every (λ b. not (eqb b space)) bs ≡ true → past_spaces bs ≡ bs
unfolding past_spaces every
past_none [] h = refl
past_none (b ∷ bs) h = cond_false (eqb b space) _ _ (not-true (eqb b space) (and_left (not (eqb b space)) _ h))

past_all : (n : ℕ) (bs : Bytes) → past_spaces (replicate n space ++ bs) ≡ past_spaces bs
unfolding past_spaces space
past_all zero bs = refl
past_all (suc n) bs = past_all n bs

-- spaces and the digits of a number
pub past_to_digits : (w n : ℕ) → past_spaces (replicate w space ++ decimal n) ≡ decimal n
unfolding space is_digit
past_to_digits w n = past_all w (decimal n) ∙ past_none (decimal n) (other_digits space n refl)

-- What a letter alone asks for.
use mathlib.Core.Path.{◌≡◌, refl}
use mathlib.Core.Bool.{true, false}
use mathlib.Core.Option.{some}
use mathlib.Core.Logic.{◌⊎◌, inl, inr}
use Prim.Native.Nat.{ℕ}
use lib.Dec.{eqb}
use lib.ListN.{length}
use borrow.Author.Tests.{ne_eqb}
use Rattle.lists.proofs.Tests.{test}
use Rattle.board.specs.Rows.{◌if◌, first_given}
use Rattle.lines.specs.Bytes.{Bytes, fields, letter_A, letter_B, letter_D, letter_Q, letter_W}
use Rattle.lines.specs.Fields.{is_letter}
use Rattle.lines.specs.Reading.{close_slot, ask_promise, forms, form_in, fields_wanted, readable, with_values, request_by}
use Rattle.fields.specs.Results.{result, unless}
use Rattle.requests.specs.Inner.Parts.{fields_read, form_read, after_letter}

-- a line that starts with Q asks what can be promised
pub promises : (l : Bytes) → (eqb (length (fields l)) 1, (0, some ask_promise)) ≡ after_letter letter_Q l
unfolding fields_wanted after_letter form_read fields_read unless first_given ◌if◌ result form_in forms is_letter readable with_values request_by letter_A letter_B letter_D letter_Q
promises l = refl

-- a line that starts with none of D, A, W and Q closes
pub closes : (c : ℕ) (l : Bytes) → (c ≡ letter_D → ⊥) → (c ≡ letter_A → ⊥) → (c ≡ letter_W → ⊥) → (c ≡ letter_Q → ⊥) → (eqb (length (fields l)) 1, (0, some close_slot)) ≡ after_letter c l
unfolding fields_wanted after_letter form_read fields_read unless first_given ◌if◌ result form_in forms is_letter readable with_values request_by
closes c l d a w q = go (test (eqb c letter_B))
  where
    go : (eqb c letter_B ≡ true) ⊎ (eqb c letter_B ≡ false) → (eqb (length (fields l)) 1, (0, some close_slot)) ≡ after_letter c l
    go (inl b) = simp (ne_eqb c letter_D d, ne_eqb c letter_A a, ne_eqb c letter_W w, ne_eqb c letter_Q q, b)
    go (inr b) = simp (ne_eqb c letter_D d, ne_eqb c letter_A a, ne_eqb c letter_W w, ne_eqb c letter_Q q, b)

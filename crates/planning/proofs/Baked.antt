-- The jobs that have a slot, counted by their places and by their slots.
use mathlib.Core.Path.{◌≡◌, refl, sym, ap, ap₂, ◌∙◌}
use mathlib.Core.Bool.{Bool, true, false, not}
use mathlib.Core.List.{List, [], ◌∷◌, ◌++◌}
use mathlib.Core.Logic.{◌⊎◌, inl, inr}
use Prim.Native.Nat.{ℕ, zero, suc, ◌≤◌}
use native.Mathlib.Numerals.{add-one}
use native.Mathlib.Omega.{arith}
use lib.Dec.{eqb}
use lib.ListN.{length, get_or, take, length-take}
use lib.Seq.{take_all, take-take}
use Rattle.std.specs.List.{count_by}
use Rattle.std.proofs.lemmas.List.Sums.{count_by_more_no, count_by_more_yes}
use Rattle.lists.specs.Select.{one_if}
use Rattle.lists.proofs.Tests.{test}
use Rattle.lines.specs.Bytes.{letter_S}
use Rattle.lines.specs.Printing.{printed}
use Rattle.matching.specs.Below.{count_below}
use Rattle.matching.specs.Assignments.{slot_given, baked_of_first}
use Rattle.worklist.specs.Output.{printed_slots, printed_plan}

-- the job has a slot
abbrev pub has_slot : ℕ → Bool
has_slot s = not (eqb s 0)

pub baked_counted : (slots : List ℕ) (n : ℕ) → n ≤ length slots → baked_of_first slots n ≡ count_by has_slot (take n slots)
unfolding baked_of_first count_below slot_given one_if
baked_counted slots zero h = refl
baked_counted slots (suc n) h = go (test (has_slot (get_or slots n 0))) (baked_counted slots n (omega arith))
  where
    go : (has_slot (get_or slots n 0) ≡ true) ⊎ (has_slot (get_or slots n 0) ≡ false) → baked_of_first slots n ≡ count_by has_slot (take n slots)
        → baked_of_first slots (suc n) ≡ count_by has_slot (take (suc n) slots)
    go (inl e) r = rw (e, ← add-one n) (omega (arith, r, count_by_more_yes has_slot slots n 0 (omega arith) e))
    go (inr e) r = rw (e, ← add-one n) (omega (arith, r, count_by_more_no has_slot slots n 0 (omega arith) e))

-- the plan of jobs by their slots, of which so many are baked
pub plan_of : (slots : List ℕ) (baked : ℕ) → baked ≡ count_by has_slot slots
    → printed_plan (length slots) slots ≡ printed_slots 1 slots ++ printed letter_S (length slots ∷ baked ∷ [])
unfolding printed_plan
plan_of slots baked e =
    let n = length slots in
    let all : take n slots ≡ slots = take_all n slots (omega arith) in
    let b : baked_of_first slots n ≡ baked = baked_counted slots n (omega arith) ∙ ap (count_by has_slot) all ∙ sym e in
    ap₂ (λ l k. printed_slots 1 l ++ printed letter_S (n ∷ k ∷ [])) all b

-- the plan of the first jobs is that of their slots alone
pub plan_taken : (slots : List ℕ) (n : ℕ) → n ≤ length slots → printed_plan (length (take n slots)) (take n slots) ≡ printed_plan n slots
unfolding printed_plan
plan_taken slots n h =
    let l = take n slots in
    let m : length l ≡ n = omega (arith, length-take n slots) in
    let all : take n l ≡ l = take-take n n slots (omega arith) in
    let b : baked_of_first l n ≡ baked_of_first slots n = baked_counted l n (omega arith) ∙ ap (count_by has_slot) all ∙ sym (baked_counted slots n h) in
    ap (λ k. printed_plan k l) m ∙ ap₂ (λ l k. printed_slots 1 l ++ printed letter_S (n ∷ k ∷ [])) all b

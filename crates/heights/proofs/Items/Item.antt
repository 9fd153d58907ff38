-- Jobs as items, each with a last slot and a grade, and lists of them: how many have last slot at least s, as a part; one item less; what holds of each.
use mathlib.Core.Path.{◌≡◌}
use mathlib.Core.Bool.{Bool}
use mathlib.Core.List.{List, [], ◌∷◌, ◌++◌}
use Prim.Native.Nat.{ℕ, suc, ◌+◌, ◌-◌, ◌≤◌, min}
use native.Mathlib.Omega.{arith}
use lib.Dec.{leb}
use Rattle.lists.proofs.Less.{Less, here, there}
use Rattle.heights.proofs.Heights.Part.{Part, ◌⊕◌, Same, at_more, Out}
use Rattle.lists.proofs.Counting.{count_append as how-many-append}
use Rattle.heights.proofs.Heights.Counted.{from_on, from_on_nil, from_on_cons, part_of}

pub record Item : Type 0 where
  pub last : ℕ
  pub grade : List Bool

-- how many have last slot at least s
abbrev pub count : List Item → ℕ → ℕ
count A s = from_on (λ (p : Item). p.last) A s

pub count_nil : (s : ℕ) → count [] s ≡ 0
count_nil s = from_on_nil (λ (p : Item). p.last) s

pub count_cons : (p : Item) (A : List Item) (s : ℕ) → count (p ∷ A) s ≡ min 1 (suc p.last - s) + count A s
count_cons p A s = from_on_cons (λ (p : Item). p.last) p A s

pub count_append : (A B : List Item) (s : ℕ) → count (A ++ B) s ≡ count A s + count B s
count_append A B s = how-many-append (λ (p : Item). leb s p.last) A B

abbrev pub part : List Item → Part
part A = part_of (λ (p : Item). p.last) A

abbrev pub parts : List (List Item) → List Part
parts [] = []
parts (F ∷ fs) = part F ∷ parts fs

pub part_append : (n : ℕ) (A B : List Item) → Same n (part (A ++ B)) (part A ⊕ part B)
part_append n A B = record { is = λ s h. count_append A B s }

-- one item less
less_at : {p : Item} {A B : List Item} → Less p A B → (s : ℕ) → count A s ≡ count B s + min 1 (suc p.last - s)
less_at {p} (here {L = A}) s = omega (arith, count_cons p A s)
less_at (there {r = r} {L = A} {L' = B} l) s = omega (arith, count_cons r A s, count_cons r B s, less_at l s)

-- an item in date leaves
pub part_out : {n : ℕ} {p : Item} {A B : List Item} → Less p A B → n ≤ p.last → Out n p.last (part A) (part B)
part_out {n} {p} {A} {B} l h =
    let q = p.last in
    record { date = h; present = omega (arith, less_at l q, less_at l (suc q), (part B).anti q (suc q) (omega arith)); rest = at_more (λ s i. less_at l s) }

unfoldable pub Each : (Item → Type 0) → List Item → Type 0
Each P [] = Unit {0}
Each P (p ∷ A) = P p × Each P A

pub each_append : (P : Item → Type 0) (A B : List Item) → Each P A → Each P B → Each P (A ++ B)
unfolding Each
each_append P [] B a b = b
each_append P (p ∷ A) B a b = (a.0, each_append P A B a.1 b)

-- Allowed grades: a set of grades, as a test. A board that holds only allowed grades has nothing where none is allowed, and what leaves it is allowed.
use mathlib.Core.Path.{◌≡◌, refl, sym, ap, ◌∙◌}
use mathlib.Core.Bool.{Bool, true, false, true≢false}
use mathlib.Core.Logic.{◌⊎◌, inl, inr}
use mathlib.Core.List.{List, [], ◌∷◌}
use Prim.Native.Nat.{ℕ, zero, suc, ◌≤◌}
use native.Mathlib.Omega.{arith}
use lib.ListN.{length}
use Rattle.heights.proofs.Trees.Tree.{Tree, total, OutTree}
use Rattle.heights.proofs.Items.Item.{each_append, Item, count_nil, Each}
use Rattle.heights.proofs.Items.Side.{next_bit, more_bits, after, side, lift, each_side, split_bits}
use Rattle.heights.proofs.Items.Tree.{tree}
use Rattle.heights.proofs.Items.Both.{both}

abbrev pub Grades : Type 0
Grades = List Bool → Bool

-- the grades that go on with b
abbrev pub beyond : Bool → Grades → Grades
beyond b ok = λ w. ok (b ∷ w)

-- p has an allowed grade of d bits
pub record Allowed (ok : Grades) (d : ℕ) (p : Item) : Type 0 where
  pub in_set : ok p.grade ≡ true
  pub bits : length p.grade ≡ d

-- and its last slot is not before slot n
pub record Fit (ok : Grades) (d n : ℕ) (p : Item) : Type 0 where
  pub allowed : Allowed ok d p
  pub date : n ≤ p.last

-- lists of items that arrive one after the other, the first in slot n
unfoldable pub AllFit : Grades → ℕ → ℕ → List (List Item) → Type 0
AllFit ok d n [] = Unit {0}
AllFit ok d n (F ∷ fs) = Each (Fit ok d n) F × AllFit ok d (suc n) fs

-- what arrives when slot n has ended, and after each slot from then on
pub record Arrivals (ok : Grades) (d n : ℕ) : Type 0 where
  pub first : List Item
  pub first_fit : Each (Fit ok d (suc n)) first
  pub later : List (List Item)
  pub later_fit : AllFit ok d (suc (suc n)) later

-- S holds only allowed grades from slot n on
unfoldable pub Only : Grades → (d n : ℕ) → Tree d → Type 0
Only ok zero n A = ok [] ≡ false → A.at n ≡ 0
Only ok (suc d) n S = (b : Bool) → Only (beyond b ok) d n (S b)

-- some grade of d bits is allowed, or none is
pub find : (d : ℕ) (ok : Grades) → ((w : List Bool) × (length w ≡ d) × (ok w ≡ true)) ⊎ ((w : List Bool) → length w ≡ d → ok w ≡ false)
find zero ok = go (ok []) refl
  where
    go : (x : Bool) → ok [] ≡ x → ((w : List Bool) × (length w ≡ 0) × (ok w ≡ true)) ⊎ ((w : List Bool) → length w ≡ 0 → ok w ≡ false)
    go true e = inl ([], refl, e)
    go false e = inr none
      where
        none : (w : List Bool) → length w ≡ 0 → ok w ≡ false
        none [] h = e
        none (b ∷ w) h = absurd (omega arith)
find (suc d) ok = go (find d (beyond false ok)) (find d (beyond true ok))
  where
    go : ((w : List Bool) × (length w ≡ d) × (ok (false ∷ w) ≡ true)) ⊎ ((w : List Bool) → length w ≡ d → ok (false ∷ w) ≡ false)
        → ((w : List Bool) × (length w ≡ d) × (ok (true ∷ w) ≡ true)) ⊎ ((w : List Bool) → length w ≡ d → ok (true ∷ w) ≡ false)
        → ((w : List Bool) × (length w ≡ suc d) × (ok w ≡ true)) ⊎ ((w : List Bool) → length w ≡ suc d → ok w ≡ false)
    go (inl x) y = inl (false ∷ x.0, ap suc x.1, x.2)
    go (inr x) (inl y) = inl (true ∷ y.0, ap suc y.1, y.2)
    go (inr x) (inr y) = inr none
      where
        none : (w : List Bool) → length w ≡ suc d → ok w ≡ false
        none [] h = absurd (omega arith)
        none (false ∷ w) h = x w (omega arith)
        none (true ∷ w) h = y w (omega arith)

-- where no grade is allowed there is nothing
pub only_none : (ok : Grades) (d n : ℕ) (S : Tree d) → Only ok d n S → ((w : List Bool) → length w ≡ d → ok w ≡ false) → (total d S).at n ≡ 0
unfolding Only total
only_none ok zero n S o h = o (h [] refl)
only_none ok (suc d) n S o h =
    omega (
      arith,
      only_none (beyond false ok) d n (S false) (o false) (λ w k. h (false ∷ w) (ap suc k)),
      only_none (beyond true ok) d n (S true) (o true) (λ w k. h (true ∷ w) (ap suc k)),
    )

-- what leaves is allowed
pub only_out : (ok : Grades) (d n p : ℕ) (S T : Tree d) (w : List Bool) → Only ok d n S → OutTree d n p S T w → ok w ≡ true
unfolding Only OutTree
only_out ok zero n p S T [] o x = go (ok []) refl
  where
    go : (b : Bool) → ok [] ≡ b → ok [] ≡ true
    go true e = e
    go false e = absurd (omega (arith, o e, x.present, S.anti n p x.date))
only_out ok zero n p S T (b ∷ w) o x = absurd x
only_out ok (suc d) n p S T [] o x = absurd x
only_out ok (suc d) n p S T (b ∷ w) o x = only_out (beyond b ok) d n p (S b) (T b) w (o b) x.0

-- a list of allowed items makes such a board
pub only_tree : (ok : Grades) (d n : ℕ) (A : List Item) → Each (Allowed ok d) A → Only ok d n (tree d A)
unfolding Only tree Each
only_tree ok zero n [] e = λ h. count_nil n
only_tree ok zero n (p ∷ A) e = λ h. absurd (true≢false (sym (go p.grade e.0.in_set e.0.bits) ∙ h))
  where
    go : (w : List Bool) → ok w ≡ true → length w ≡ 0 → ok [] ≡ true
    go [] i h = i
    go (b ∷ w) i h = absurd (omega arith)
only_tree ok (suc d) n A e = λ b. only_tree (beyond b ok) d n (side b A) (each_side (Allowed ok (suc d)) (Allowed (beyond b ok) d) b (go b) A e)
  where
    go : (b : Bool) (p : Item) → next_bit p.grade ≡ b → Allowed ok (suc d) p → Allowed (beyond b ok) d (after p)
    go b p f a =
        let k = a.bits in
        let s : p.grade ≡ next_bit p.grade ∷ more_bits p.grade = split_bits p.grade (omega arith) in
        let i : length p.grade ≡ suc (length (more_bits p.grade)) = ap length s in
        record { in_set = sym (ap ok (s ∙ ap (λ (x : Bool). x ∷ more_bits p.grade) f)) ∙ a.in_set; bits = omega arith }

-- a bit in front of each grade
pub each_lift : (ok : Grades) (d n : ℕ) (b : Bool) (F : List Item) → Each (Fit (beyond b ok) d n) F → Each (Fit ok (suc d) n) (lift b F)
unfolding Each lift
each_lift ok d n b [] e = tt
each_lift ok d n b (p ∷ F) e =
    let a = e.0.allowed in
    (record { allowed = record { in_set = a.in_set; bits = ap suc a.bits }; date = e.0.date }, each_lift ok d n b F e.1)

-- items that arrive on both sides
pub both_fit : (ok : Grades) (d n : ℕ) (Z O : List Item) → Each (Fit (beyond false ok) d n) Z → Each (Fit (beyond true ok) d n) O
    → Each (Fit ok (suc d) n) (both Z O)
both_fit ok d n Z O z o = each_append (Fit ok (suc d) n) (lift false Z) (lift true O) (each_lift ok d n false Z z) (each_lift ok d n true O o)

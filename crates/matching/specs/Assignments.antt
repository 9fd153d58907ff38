-- Plans, and the plans that are best for every m at once.
use Rattle.std.specs.Prelude.{◌≡◌, not, List, ℕ, ◌≤◌, ◌<◌, eqb, length, get_or}
use Rattle.matching.specs.declared.Window.{Window}
use Rattle.matching.specs.Below.{count_below}
use Rattle.matching.specs.Windows.{first_of, last_of}

-- the slot that a plan gives to a job; 'a rack left out has slot 0'
unfoldable pub slot_given : List ℕ → ℕ → ℕ
slot_given slots i = get_or slots i 0

-- a plan gives each job a slot of its window, or none, and no two jobs the same slot
pub record IsAssignment (ws : List Window) (slots : List ℕ) : Type 0 where
  pub in_window : (i : ℕ) → i < length ws → 1 ≤ slot_given slots i → (first_of ws i ≤ slot_given slots i) × (slot_given slots i ≤ last_of ws i)
  pub apart : (i j : ℕ) → i < length ws → j < length ws → 1 ≤ slot_given slots i → slot_given slots i ≡ slot_given slots j → i ≡ j

-- how many of the first m jobs a plan bakes
unfoldable pub baked_of_first : List ℕ → ℕ → ℕ
baked_of_first slots m = count_below (λ i. not (eqb (slot_given slots i) 0)) m

-- 'The plan must bake, for every m at once, as many of the first m racks as any plan can'
pub record IsBest (ws : List Window) (slots : List ℕ) : Type 0 where
  pub plan : IsAssignment ws slots
  pub most : (other : List ℕ) → IsAssignment ws other → (m : ℕ) → m ≤ length ws → baked_of_first other m ≤ baked_of_first slots m

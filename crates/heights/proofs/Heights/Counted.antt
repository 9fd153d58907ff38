-- A list of things that have a last slot each, as a part: how many have it at s or later.
use mathlib.Core.Path.{◌≡◌, refl}
use mathlib.Core.List.{List, [], ◌∷◌}
use Prim.Native.Nat.{ℕ, suc, ◌+◌, ◌-◌, ◌≤◌, min}
use native.Mathlib.Omega.{arith}
use lib.Dec.{leb}
use Rattle.lists.specs.Select.{how_many}
use Rattle.lists.proofs.Counting.{one_leb}
use Rattle.heights.proofs.Heights.Part.{Part}

module _ {A : Type 0} (last : A → ℕ) where
  abbrev pub from_on : List A → ℕ → ℕ
  from_on L s = how_many (λ a. leb s (last a)) L

  pub from_on_nil : (s : ℕ) → from_on [] s ≡ 0
  unfolding how_many
  from_on_nil s = refl

  pub from_on_cons : (a : A) (L : List A) (s : ℕ) → from_on (a ∷ L) s ≡ min 1 (suc (last a) - s) + from_on L s
  unfolding how_many
  from_on_cons a L s = omega (arith, one_leb s (last a))

  pub from_on_anti : (L : List A) (s t : ℕ) → s ≤ t → from_on L t ≤ from_on L s
  from_on_anti [] s t h = omega (arith, from_on_nil s, from_on_nil t)
  from_on_anti (a ∷ L) s t h = omega (arith, from_on_cons a L s, from_on_cons a L t, from_on_anti L s t h)

  -- a slot past all last slots
  pub past_all : List A → ℕ
  past_all [] = 0
  past_all (a ∷ L) = suc (last a) + past_all L

  pub from_on_past : (L : List A) → from_on L (past_all L) ≡ 0
  unfolding past_all
  from_on_past [] = from_on_nil 0
  from_on_past (a ∷ L) =
      let t = suc (last a) + past_all L in
      omega (arith, from_on_cons a L t, from_on_anti L (past_all L) t (omega arith), from_on_past L)

  abbrev pub part_of : List A → Part
  part_of L = record { at = from_on L; anti = from_on_anti L; end = past_all L; none = from_on_past L }

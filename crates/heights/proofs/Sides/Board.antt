-- A board of two sides: the jobs whose next bit is 0, at false, and those whose next bit is 1, at true. A job leaves one side, the other stays.
use mathlib.Core.Path.{◌≡◌, refl, sym, subst}
use mathlib.Core.Bool.{Bool, true, false, not}
use mathlib.Core.Logic.{◌⊎◌, inl, inr, ⊎_elim}
use Prim.Native.Nat.{ℕ, suc, ◌+◌}
use native.Mathlib.Omega.{arith}
use Rattle.heights.proofs.Heights.Part.{Part, ◌⊕◌, Same, same_refl, more_at, at_more, Out}

abbrev pub Sides : Type 0
Sides = Bool → Part

abbrev pub whole : Sides → Part
whole S = S false ⊕ S true

abbrev pub join : Sides → Sides → Sides
join S F = λ b. S b ⊕ F b

abbrev pub pair : Part → Part → Sides
pair A B false = A
pair A B true = B

-- S with A for its side b
abbrev pub replace : Bool → Part → Sides → Sides
replace false A S = pair A (S true)
replace true A S = pair (S false) A

abbrev pub SameSides : ℕ → Sides → Sides → Type 0
SameSides n S T = (b : Bool) → Same n (S b) (T b)

-- a slot of a future, served or not, and what arrives when it has ended
pub data Slot (Board : Type 0) : Type 0 where
  served : Board → Slot Board
  idle : Board → Slot Board

-- one bit is the other, or its sibling
pub bits : (b c : Bool) → (b ≡ c) ⊎ (b ≡ not c)
bits false false = inl refl
bits false true = inr refl
bits true false = inr refl
bits true true = inl refl

-- what holds of a bit and of its sibling holds of each bit
pub each_bit : (P : Bool → Type 0) (b : Bool) → P b → P (not b) → (x : Bool) → P x
each_bit P b h k x = ⊎_elim (λ e. subst P (sym e) h) (λ e. subst P (sym e) k) (bits x b)

pub whole_same : {n : ℕ} {S T : Sides} → SameSides n S T → Same n (whole S) (whole T)
whole_same k = record { is = λ s h. omega (arith, (k false).is s h, (k true).is s h) }

pub whole_at : (b : Bool) (S : Sides) (s : ℕ) → (whole S).at s ≡ (S b).at s + (S (not b)).at s
whole_at false S s = refl
whole_at true S s = omega arith

-- what leaves a side leaves the whole
pub out_side : {n e : ℕ} (b : Bool) (S T : Sides) → Out n e (S b) (T b) → Same (suc n) (S (not b)) (T (not b)) → Out n e (whole S) (whole T)
out_side {n} {e} b S T a k =
    record {
      date = a.date;
      present = omega (arith, a.present, (S (not b)).anti e (suc e) (omega arith), whole_at b S (suc e), whole_at b S e);
      rest = at_more (λ s h. omega (arith, more_at a.rest s h, k.is s h, whole_at b S s, whole_at b T s));
    }

-- a side is replaced by what is left of it
pub replace_out : {n e : ℕ} {A : Part} (b : Bool) (S : Sides) → Out n e (S b) A
    → Out n e (S b) (replace b A S b) × Same (suc n) (S (not b)) (replace b A S (not b))
replace_out {n} false S o = (o, same_refl (suc n) (S true))
replace_out {n} true S o = (o, same_refl (suc n) (S false))

-- The tight slot of the whole board and those of its sides: if a tight job is on a side, that side's tight slot is no later, so what is tight
-- on that side is tight; if no tight job is on a side, the other side has the tight slot of the whole. And which side is chosen.
use mathlib.Core.Path.{◌≡◌}
use mathlib.Core.Bool.{Bool, true, false, not}
use mathlib.Core.Logic.{⊎_elim}
use Prim.Native.Nat.{ℕ, suc, ◌≤◌, ◌<◌}
use native.Mathlib.Omega.{arith}
use Rattle.heights.proofs.Heights.Part.{Part, Same, Out, cmp, not_above}
use Rattle.heights.proofs.Heights.TightSlot.{TightSlot, tight_fall, tight_same}
use Rattle.heights.proofs.Heights.Exists.{tight_slot}
use Rattle.heights.proofs.Sides.Board.{whole_at, Sides, whole, SameSides, whole_same}

-- a tight job is on side b: the tight slot of the side is no later (D1)
pub inner_tight : {n l m : ℕ} (b : Bool) (S : Sides) → TightSlot n (whole S) l → (S b).at (suc l) < (S b).at n → TightSlot n (S b) m → m ≤ l
inner_tight {n} {l} {m} b S T f U =
    not_above m l (λ h. omega (
      arith,
      U.upto (suc l) (omega (arith, T.date)) h f,
      T.past (suc m) (omega arith),
      (S (not b)).anti (suc l) (suc m) (omega arith),
      whole_at b S (suc l),
      whole_at b S (suc m),
    ))

-- no tight job is on side b: the other side has the same tight slot (D2)
pub other_tight : {n l : ℕ} (b : Bool) (S : Sides) → TightSlot n (whole S) l → (S b).at (suc l) ≡ (S b).at n → TightSlot n (S (not b)) l
other_tight {n} {l} b S T f =
    let at = whole_at b S in
    record {
      date = T.date;
      present = omega (arith, T.present, (S b).anti n l T.date, at l, at (suc l));
      past = λ s h. omega (arith, T.past s h, (S b).anti (suc l) s h, at s, at (suc l));
      upto = λ s h j g. omega (arith, T.upto s h j (omega (arith, (S b).anti n s h, at s, at n)), (S b).anti n s h, at s, at (suc l));
    }

-- x is the count past the tight slot and y the count now, of the 0-side: false is picked if a tight job is there
abbrev pub Pick : Bool → ℕ → ℕ → Type 0
Pick false x y = x < y
Pick true x y = x ≡ y

-- l is the tight slot of the whole, and b the side chosen
pub record Chosen (n l : ℕ) (S : Sides) (b : Bool) : Type 0 where
  pub tight : TightSlot n (whole S) l
  pub pick : Pick b ((S false).at (suc l)) ((S false).at n)

-- a side is chosen
pub choose : (n : ℕ) (S : Sides) → 0 < (whole S).at n → (b : Bool) × (l : ℕ) × Chosen n l S b
choose n S h =
    let t = tight_slot n (whole S) h in
    ⊎_elim
    {C = (b : Bool) × (l : ℕ) × Chosen n l S b}
    (λ (i : (S false).at n ≤ (S false).at (suc t.0)).
    (true, t.0, record { tight = t.1; pick = omega (arith, (S false).anti n (suc t.0) (omega (arith, t.1.date))) }))
    (λ i. (false, t.0, record { tight = t.1; pick = i }))
    (cmp ((S false).at n) ((S false).at (suc t.0)))

-- the side chosen has a tight job
pub chosen_fall : {n l : ℕ} {S : Sides} (b : Bool) → Chosen n l S b → (S b).at (suc l) < (S b).at n
chosen_fall false c = c.pick
chosen_fall {S = S} true c = tight_fall (other_tight false S c.tight c.pick)

-- what is tight on the side chosen is tight
pub chosen_within : {n l m : ℕ} {S : Sides} (b : Bool) → Chosen n l S b → TightSlot n (S b) m → m ≤ l
chosen_within {S = S} b c U = inner_tight b S c.tight (chosen_fall b c) U

-- where the 1-side is chosen, it has the tight slot of the whole
pub chosen_one : {n l : ℕ} {S : Sides} → Chosen n l S true → TightSlot n (S true) l
chosen_one {S = S} c = other_tight false S c.tight c.pick

-- only the counts from n on matter
pub chosen_same : {n l : ℕ} {R S : Sides} (b : Bool) → SameSides n R S → Chosen n l S b → Chosen n l R b
chosen_same {n} {l} {R} {S} b e c = record { tight = tight_same (whole_same e) c.tight; pick = go b c.pick }
  where
    go : (b : Bool) → Pick b ((S false).at (suc l)) ((S false).at n) → Pick b ((R false).at (suc l)) ((R false).at n)
    go false p = omega (arith, (e false).is n (omega arith), (e false).is (suc l) (omega (arith, c.tight.date)))
    go true p = omega (arith, (e false).is n (omega arith), (e false).is (suc l) (omega (arith, c.tight.date)))

-- in slot n a job leaves side b of S, up to the tight slot of X, and T is left
pub record Take (n : ℕ) (X : Part) (S T : Sides) (b : Bool) : Type 0 where
  pub slot : ℕ
  pub last : ℕ
  pub tight : TightSlot n X slot
  pub out : Out n last (S b) (T b)
  pub within : last ≤ slot
  pub kept : Same (suc n) (S (not b)) (T (not b))

-- one that is tight in the whole, and one that is tight on its side
abbrev pub TightTake : ℕ → Sides → Sides → Bool → Type 0
TightTake n S T b = Take n (whole S) S T b

abbrev pub SideTake : ℕ → Sides → Sides → Bool → Type 0
SideTake n S T b = Take n (S b) S T b

-- from the side chosen, the second is the first
pub chosen_le : {n l : ℕ} {S T : Sides} (b : Bool) → Chosen n l S b → (t : SideTake n S T b) → t.last ≤ l
chosen_le b c t = omega (arith, t.within, chosen_within b c t.tight)

pub chosen_take : {n l : ℕ} {S T : Sides} (b : Bool) → Chosen n l S b → SideTake n S T b → TightTake n S T b
chosen_take {l = l} b c t = record { slot = l; last = t.last; tight = c.tight; out = t.out; within = chosen_le b c t; kept = t.kept }

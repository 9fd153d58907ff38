-- Runs from a part along a future: in each slot at most one job leaves, the slot ends, and the jobs of the future's next part arrive.
-- A tight run takes a tight job whenever one is in date; a schedule takes any job in date, or none.
use mathlib.Core.Path.{◌≡◌}
use mathlib.Core.List.{List, [], ◌∷◌}
use Prim.Native.Nat.{ℕ, suc, ◌+◌, ◌≤◌}
use Rattle.heights.proofs.Heights.Part.{Part, ◌⊕◌, Same, same_trans, same_later, Out, out_same}
use Rattle.heights.proofs.Heights.TightSlot.{TightSlot, tight_same}
use native.Mathlib.Omega.{arith}

-- one slot n, from S to T; the last index is how many jobs leave
pub data TightStep (n : ℕ) (S T : Part) : ℕ → Type 0 where
  rest : S.at n ≡ 0 → Same (suc n) S T → TightStep n S T 0
  take : (l p : ℕ) → TightSlot n S l → Out n p S T → p ≤ l → TightStep n S T 1

pub data AnyStep (n : ℕ) (S T : Part) : ℕ → Type 0 where
  rest : Same (suc n) S T → AnyStep n S T 0
  take : (p : ℕ) → Out n p S T → AnyStep n S T 1

-- a run from S at n along a future: the last index lists how many jobs leave in each slot
pub data Along (Step : ℕ → Part → Part → ℕ → Type 0) : ℕ → Part → List Part → List ℕ → Type 0 where
  stop : {n : ℕ} {S : Part} → Along Step n S [] []
  next : {n : ℕ} {S F : Part} {fs : List Part} {ks : List ℕ} (T : Part) (k : ℕ) → Step n S T k → Along Step (suc n) (T ⊕ F) fs ks
      → Along Step n S (F ∷ fs) (k ∷ ks)

abbrev pub TightRun : ℕ → Part → List Part → List ℕ → Type 0
TightRun = Along TightStep

abbrev pub Schedule : ℕ → Part → List Part → List ℕ → Type 0
Schedule = Along AnyStep

-- how many jobs leave in all
abbrev pub sum : List ℕ → ℕ
sum [] = 0
sum (k ∷ ks) = k + sum ks

-- only the counts from n on matter to a step
abbrev pub StepSame : (ℕ → Part → Part → ℕ → Type 0) → Type 0
StepSame Step = (n k : ℕ) (R S T : Part) → Same n R S → Step n S T k → Step n R T k

pub tight_step_same : StepSame TightStep
tight_step_same n k R S T e (rest z s) = rest (omega (arith, e.is n (omega arith))) (same_trans (same_later (suc n) (omega arith) e) s)
tight_step_same n k R S T e (take l p U o h) = take l p (tight_same e U) (out_same e o) h

pub any_step_same : StepSame AnyStep
any_step_same n k R S T e (rest s) = rest (same_trans (same_later (suc n) (omega arith) e) s)
any_step_same n k R S T e (take p o) = take p (out_same e o)

-- nor to a run
pub along_same : {Step : ℕ → Part → Part → ℕ → Type 0} {n : ℕ} {R S : Part} {fs : List Part} {ks : List ℕ} → StepSame Step → Same n R S → Along Step n S fs ks
    → Along Step n R fs ks
along_same f e stop = stop
along_same {n = n} {R} {S} f e (next T k s r) = next T k (f n k R S T e s) r

-- Runs on a board of two sides, with the count of 0-jobs that they take: tight runs take a tight job in each served slot; good runs take a job tight
-- on its side, from the 0-side if a tight job is there. A good run exists from every board, along every future.
use mathlib.Core.Path.{◌≡◌, refl}
use mathlib.Core.Bool.{Bool, true, false}
use mathlib.Core.Logic.{◌⊎◌, inl, inr}
use mathlib.Core.List.{List, [], ◌∷◌}
use Prim.Native.Nat.{ℕ, suc, ◌+◌, ◌≤◌, ◌<◌}
use native.Mathlib.Omega.{arith}
use Rattle.heights.proofs.Heights.Part.{same_refl, cmp}
use Rattle.heights.proofs.Heights.Exists.{tight_slot, take_out}
use Rattle.heights.proofs.Sides.Board.{Sides, whole, join, replace, replace_out, SameSides, Slot, served, idle}
use Rattle.heights.proofs.Sides.Tight.{Chosen, choose, chosen_fall, TightTake, SideTake}

-- what a job of side b adds to the count of 0-jobs
abbrev pub zeros : Bool → ℕ
zeros false = 1
zeros true = 0

pub data TightStep (n : ℕ) (S T : Sides) : ℕ → Type 0 where
  rest : (whole S).at n ≡ 0 → SameSides (suc n) S T → TightStep n S T 0
  take : (b : Bool) → TightTake n S T b → TightStep n S T (zeros b)

pub data GoodStep (n : ℕ) (S T : Sides) : ℕ → Type 0 where
  rest : (whole S).at n ≡ 0 → SameSides (suc n) S T → GoodStep n S T 0
  take : (b : Bool) (l : ℕ) → Chosen n l S b → SideTake n S T b → GoodStep n S T (zeros b)

-- from S at n, along the future, k 0-jobs are taken
pub data Along (Step : ℕ → Sides → Sides → ℕ → Type 0) : ℕ → Sides → List (Slot Sides) → ℕ → Type 0 where
  stop : {n : ℕ} {S : Sides} → Along Step n S [] 0
  pass : {n k : ℕ} {S F : Sides} {fs : List (Slot Sides)} (T : Sides) → SameSides (suc n) S T → Along Step (suc n) (join T F) fs k
      → Along Step n S (idle F ∷ fs) k
  serve : {n k : ℕ} {S F : Sides} {fs : List (Slot Sides)} (T : Sides) (d j : ℕ) → Step n S T d → Along Step (suc n) (join T F) fs j → k ≡ d + j
      → Along Step n S (served F ∷ fs) k

abbrev pub TightRun : ℕ → Sides → List (Slot Sides) → ℕ → Type 0
TightRun = Along TightStep

abbrev pub GoodRun : ℕ → Sides → List (Slot Sides) → ℕ → Type 0
GoodRun = Along GoodStep

good_step : (n : ℕ) (S : Sides) → (T : Sides) × (d : ℕ) × GoodStep n S T d
good_step n S = go (cmp 1 ((whole S).at n))
  where
    go : (1 ≤ (whole S).at n) ⊎ ((whole S).at n < 1) → (T : Sides) × (d : ℕ) × GoodStep n S T d
    go (inr h) = (S, 0, rest (omega arith) (λ b. same_refl (suc n) (S b)))
    go (inl h) =
        let c = choose n S h in
        let b = c.0 in
        let m = tight_slot n (S b) (omega (arith, chosen_fall b c.2)) in
        let a = take_out n m.0 (S b) m.1.date m.1.present in
        let r = replace_out b S a.1 in
        (replace b a.0 S, zeros b, take b c.1 c.2 record { slot = m.0; last = m.0; tight = m.1; out = r.0; within = omega arith; kept = r.1 })

pub good_run : (fs : List (Slot Sides)) (n : ℕ) (S : Sides) → (k : ℕ) × GoodRun n S fs k
good_run [] n S = (0, stop)
good_run (idle F ∷ fs) n S = let r = good_run fs (suc n) (join S F) in (r.0, pass S (λ b. same_refl (suc n) (S b)) r.1)
good_run (served F ∷ fs) n S =
    let t = good_step n S in
    let r = good_run fs (suc n) (join t.0 F) in
    (t.1 + r.0, serve t.0 t.1 r.0 t.2 r.1 refl)

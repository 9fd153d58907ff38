-- What is claimed of good runs along a future: whoever is ahead takes no fewer 0-jobs, and an exchange costs at most one.
-- Here the first, for a served slot, from both for the slots after it.
use mathlib.Core.Bool.{Bool, true, false}
use mathlib.Core.List.{List}
use Prim.Native.Nat.{ℕ, suc, ◌+◌, ◌≤◌}
use native.Mathlib.Omega.{arith}
use Rattle.heights.proofs.Heights.Part.{same_refl, fall_in}
use Rattle.heights.proofs.Heights.Reach.{reach_none}
use Rattle.heights.proofs.Heights.TightSlot.{tight_fall}
use Rattle.heights.proofs.Heights.Exists.{tight_slot, take_out}
use Rattle.heights.proofs.Sides.Board.{Sides, join, pair, Slot, SameSides}
use Rattle.heights.proofs.Sides.Tight.{inner_tight, Chosen, TightTake, SideTake, chosen_le, chosen_take}
use Rattle.heights.proofs.Sides.Ahead.{Ahead, same_choice, ahead_whole, ahead_join, ahead_same, ahead_take}
use Rattle.heights.proofs.Sides.Run.{GoodStep, GoodRun, good_run}
use Rattle.heights.proofs.Exchange.Condition.{Exchanged}
use Rattle.heights.proofs.Exchange.Later.{exchange_join}
use Rattle.heights.proofs.Exchange.Fresh.{exchange_fresh}

abbrev pub AheadNoLess : List (Slot Sides) → Type 0
AheadNoLess fs = (n : ℕ) (P Q : Sides) (j k : ℕ) → Ahead n P Q → GoodRun n P fs j → GoodRun n Q fs k → k ≤ j

abbrev pub ExchangeOne : List (Slot Sides) → Type 0
ExchangeOne fs = (n x y : ℕ) (P Q : Sides) (j k : ℕ) → Exchanged n x y P Q → GoodRun n P fs j → GoodRun n Q fs k → k ≤ suc j

-- whoever is ahead takes no fewer later where nothing leaves in this slot, and where both take a job of one side
module _ (fs : List (Slot Sides)) (F : Sides) (ahead : AheadNoLess fs) {n j k : ℕ} {P Q R S : Sides} (a : Ahead n P Q) where
  pub none_taken : SameSides (suc n) P R → SameSides (suc n) Q S → GoodRun (suc n) (join R F) fs j → GoodRun (suc n) (join S F) fs k → k ≤ j
  none_taken s t gp gq = ahead (suc n) (join R F) (join S F) j k (ahead_join F (ahead_same a s t)) gp gq

  pub both_taken : (b : Bool) → SideTake n P R b → TightTake n Q S b → GoodRun (suc n) (join R F) fs j → GoodRun (suc n) (join S F) fs k → k ≤ j
  both_taken b p q gp gq = ahead (suc n) (join R F) (join S F) j k (ahead_join F (ahead_take b a p q)) gp gq

module _ (fs : List (Slot Sides)) (F : Sides) (ahead : AheadNoLess fs) (exchange : ExchangeOne fs) where
  -- P takes a 0-job, Q a 1-job: P could have taken a 1-job as well, and the exchange costs at most one
  crossed : {n l : ℕ} {P Q R S : Sides} (j k : ℕ) → Ahead n P Q → Chosen n l P false → SideTake n P R false → TightTake n Q S true
      → GoodRun (suc n) (join R F) fs j → GoodRun (suc n) (join S F) fs k → k ≤ suc j
  crossed {n} {l} {P} {Q} {R} {S} j k a C p q gp gq =
      let h = same_choice true a C.tight q.tight (fall_in q.slot q.out q.within) in
      let y = tight_slot n (P true) (omega arith) in
      let b = take_out n y.0 (P true) y.1.date y.1.present in
      let W = pair (P false) b.0 in
      let kw = same_refl (suc n) (P false) in
      let w : SideTake n P W true = record { slot = y.0; last = y.0; tight = y.1; out = b.1; within = omega arith; kept = kw } in
      let g = good_run fs (suc n) (join W F) in
      let E : Exchanged (suc n) p.last y.0 R W =
      exchange_fresh P C.tight p.tight p.out p.within (chosen_le false C p) p.kept b.1
      (inner_tight true P C.tight h y.1) kw
      in
      omega (
        arith,
        both_taken fs F ahead a true w q g.1 gq,
        exchange (suc n) p.last y.0 (join R F) (join W F) j g.0 (exchange_join F E) gp g.1,
      )

  pub ahead_served : {n d c : ℕ} {P Q R S : Sides} (j k : ℕ) → Ahead n P Q → GoodStep n P R d → GoodStep n Q S c → GoodRun (suc n) (join R F) fs j
      → GoodRun (suc n) (join S F) fs k → c + k ≤ d + j
  ahead_served j k a (GoodStep.rest p s) (GoodStep.rest q t) gp gq = omega (arith, none_taken fs F ahead a s t gp gq)
  ahead_served j k a (GoodStep.rest p s) (GoodStep.take b l C q) gp gq = absurd (omega (arith, tight_fall C.tight, reach_none (ahead_whole a) p))
  ahead_served j k a (GoodStep.take b l C p) (GoodStep.rest q t) gp gq = absurd (omega (arith, tight_fall C.tight, reach_none a.back q))
  ahead_served j k a (GoodStep.take false l C p) (GoodStep.take false l' D q) gp gq = omega (arith, both_taken fs F ahead a false p (chosen_take false D q) gp gq)
  ahead_served j k a (GoodStep.take true l C p) (GoodStep.take true l' D q) gp gq = omega (arith, both_taken fs F ahead a true p (chosen_take true D q) gp gq)
  ahead_served j k a (GoodStep.take true l C p) (GoodStep.take false l' D q) gp gq =
      absurd (omega (arith, C.pick, same_choice false a C.tight D.tight D.pick))
  ahead_served j k a (GoodStep.take false l C p) (GoodStep.take true l' D q) gp gq = omega (arith, crossed j k a C p (chosen_take true D q) gp gq)

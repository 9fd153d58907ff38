-- An exchange costs at most one 0-job: a served slot, from what is claimed for the slots after it. Each run's choice is first replaced by the earliest
-- job of its side, which costs nothing.
use mathlib.Core.Bool.{not, Bool, true, false}
use mathlib.Core.Logic.{◌⊎◌, inl, inr, ⊎_elim}
use mathlib.Core.List.{List}
use Prim.Native.Nat.{ℕ, suc, ◌+◌, ◌≤◌, ◌<◌}
use native.Mathlib.Omega.{arith}
use Rattle.heights.proofs.Heights.Part.{Part, Same, same_refl, Out, cmp}
use Rattle.heights.proofs.Heights.Reach.{Reach, reach_none}
use Rattle.heights.proofs.Heights.TightSlot.{tight_fall}
use Rattle.heights.proofs.Heights.Exists.{EarliestSlot, earliest, earliest_le, take_out}
use Rattle.heights.proofs.Heights.Removal.{removal}
use Rattle.heights.proofs.Sides.Board.{Sides, join, pair, out_side, Slot}
use Rattle.heights.proofs.Sides.Tight.{Chosen, SideTake, chosen_le, chosen_take, chosen_within}
use Rattle.heights.proofs.Sides.Ahead.{Ahead, ahead_refl, ahead_join}
use Rattle.heights.proofs.Sides.Run.{GoodStep, GoodRun, good_run}
use Rattle.heights.proofs.Exchange.Condition.{Exchanged, exchange_forth, exchange_back}
use Rattle.heights.proofs.Exchange.Later.{exchange_join}
use Rattle.heights.proofs.Exchange.Earliest.{earliest_more, earliest_one}
use Rattle.heights.proofs.Exchange.BothZero.{both_take}
use Rattle.heights.proofs.Exchange.Moved.{x_moves}
use Rattle.heights.proofs.Exchange.ZeroOne.{ones_ahead, zeros_ahead_x, zeros_ahead_e}
use Rattle.heights.proofs.Exchange.BothOne.{y_beyond, none_either, both_take_one}
use Rattle.heights.proofs.Exchange.Dominance.{AheadNoLess, ExchangeOne, both_taken}

-- the earliest job of a side serves as the job taken
earliest_take : {n e : ℕ} {Q S T : Sides} (b : Bool) → SideTake n Q S b → EarliestSlot n (Q b) e → Out n e (Q b) (T b)
    → Same (suc n) (Q (not b)) (T (not b))
    → SideTake n Q T b
earliest_take {e = e} b p f o k =
    record { slot = p.slot; last = e; tight = p.tight; out = o; within = earliest_le p.slot f (tight_fall p.tight); kept = k }

module _ (fs : List (Slot Sides)) (F : Sides) (ahead : AheadNoLess fs) (exchange : ExchangeOne fs) where
  -- a good run takes some job tight on its side: another such job serves as well
  as_well : {n l : ℕ} {Q S T : Sides} (b : Bool) (j k : ℕ) → Chosen n l Q b → SideTake n Q S b → SideTake n Q T b → GoodRun (suc n) (join S F) fs j
      → GoodRun (suc n) (join T F) fs k → j ≤ k
  as_well {n} {Q = Q} b j k C p q g h = both_taken fs F ahead (ahead_refl n Q) b q (chosen_take b C p) h g

  -- both take a 0-job
  both_zero : {n x y l m : ℕ} {P Q R S : Sides} (j k : ℕ) → Exchanged n x y P Q → n ≤ x → Chosen n l P false → SideTake n P R false
      → Chosen n m Q false
      → SideTake n Q S false → GoodRun (suc n) (join R F) fs j → GoodRun (suc n) (join S F) fs k → k ≤ suc j
  both_zero {n} {x} {y} {l} {m} {P} {Q} {R} {S} j k E nx C p D q gp gq =
      let f = earliest n (P false) (omega (arith, C.pick)) in
      let e = f.0 in
      let el = earliest_le l f.1 C.pick in
      let a = take_out n e (P false) f.1.date f.1.present in
      let R' = pair a.0 (P true) in
      let kp = same_refl (suc n) (P true) in
      let kq = same_refl (suc n) (Q true) in
      let p' : SideTake n P R' false = earliest_take false p f.1 a.1 kp in
      let g = good_run fs (suc n) (join R' F) in
      let gj : g.0 ≤ j = as_well false g.0 j C p' p g.1 gp in
      -- Q takes the earliest job i instead, and the exchange goes on with z
      let instead : (i : ℕ) → EarliestSlot n (Q false) i → (z : ℕ) → ((B : Part) → Out n i (Q false) B → Exchanged (suc n) z y R' (pair B (Q true))) → k ≤ suc j =
      λ i h z f.
      let b = take_out n i (Q false) h.date h.present in
      let S' = pair b.0 (Q true) in
      let r = good_run fs (suc n) (join S' F) in
      omega (
        arith,
        as_well false k r.0 D q (earliest_take {T = S'} false q h b.1 kq) gq r.1,
        exchange (suc n) z y (join R' F) (join S' F) g.0 r.0 (exchange_join F (f b.0 b.1)) g.1 r.1,
      )
      in
      ⊎_elim
      (λ (i : e ≤ x). instead e (earliest_more E.x_more f.1 i) x (λ B o. both_take E nx C.tight f.1 el i a.1 kp o kq))
      (λ (i : x < e).
      instead x (earliest_one E.x_more nx (omega (arith, f.1.same x nx (omega arith)))) e (λ B o. x_moves E nx C.tight f.1 el i a.1 kp o kq))
      (cmp e x)

  -- P takes a 1-job, Q a 0-job: P is ahead
  one_zero : {n x y l m : ℕ} {P Q R S : Sides} (j k : ℕ) → Exchanged n x y P Q → n ≤ x → Chosen n l P true → SideTake n P R true → Chosen n m Q false
      → SideTake n Q S false → GoodRun (suc n) (join R F) fs j → GoodRun (suc n) (join S F) fs k → k ≤ j
  one_zero {n} {x} {y} {l} {m} {P} {Q} {R} {S} j k E nx C p D q gp gq = pick (cmp ((P false).at n) ((P false).at x))
    where
      pl : p.last ≤ l
      pl = chosen_le true C p

      kq : Same (suc n) (Q true) (Q true)
      kq = same_refl (suc n) (Q true)

      -- Q takes e instead
      instead : (e : ℕ) (f : EarliestSlot n (Q false) e) → ((B : Part) → Out n e (Q false) B → e ≤ m → Reach (suc n) 0 (R false) B) → k ≤ j
      instead e f r =
          let b = take_out n e (Q false) f.date f.present in
          let S' = pair b.0 (Q true) in
          let h = good_run fs (suc n) (join S' F) in
          let q' : SideTake n Q S' false = earliest_take false q f b.1 kq in
          let kh : k ≤ h.0 = as_well false k h.0 D q q' gq h.1 in
          let em : e ≤ m = omega (arith, earliest_le q.slot f (tight_fall q.tight), chosen_within false D q.tight) in
          let ones = ones_ahead E nx C.tight C.pick p.out pl kq in
          let A : Ahead (suc n) R S' =
          record {
            side = λ x. elim x as (λ v. Reach (suc n) 0 (R v) (S' v)) [ true ↦ ones | false ↦ r b.0 b.1 em ];
            back = removal (exchange_back E) D.tight (out_side false Q S' b.1 kq) em (out_side true P R p.out p.kept);
          }
          in
          omega (arith, ahead (suc n) (join R F) (join S' F) j h.0 (ahead_join F A) gp h.1)

      pick : ((P false).at n ≤ (P false).at x) ⊎ ((P false).at x < (P false).at n) → k ≤ j
      pick (inl h) = instead x (earliest_one E.x_more nx h) (λ B b em. zeros_ahead_x E p.kept b)
      pick (inr h) =
          let f = earliest n (P false) (omega arith) in
          let ex : f.0 ≤ x = omega (arith, earliest_le x f.1 (omega (arith, (P false).anti x (suc x) (omega arith)))) in
          instead f.0 (earliest_more E.x_more f.1 ex)
          (λ B b em. zeros_ahead_e R (pair B (Q true)) E C.tight C.pick p.out pl p.kept D.tight f.1 ex b em kq)

  -- both take a 1-job
  both_one : {n x y l m : ℕ} {P Q R S : Sides} (j k : ℕ) → Exchanged n x y P Q → n ≤ x → Chosen n l P true → SideTake n P R true → Chosen n m Q true
      → SideTake n Q S true → GoodRun (suc n) (join R F) fs j → GoodRun (suc n) (join S F) fs k → k ≤ suc j
  both_one {n} {x} {y} {l} {m} {P} {Q} {R} {S} j k E nx C p D q gp gq =
      let f = earliest n (Q true) (omega (arith, tight_fall q.tight)) in
      let e = f.0 in
      let kp = same_refl (suc n) (P false) in
      let kq = same_refl (suc n) (Q false) in
      let b = take_out n e (Q true) f.1.date f.1.present in
      let S' = pair (Q false) b.0 in
      let q' : SideTake n Q S' true = earliest_take true q f.1 b.1 kq in
      let em : e ≤ m = omega (arith, earliest_le q.slot f.1 (tight_fall q.tight), chosen_within true D q.tight) in
      let pf = earliest_more E.y_more f.1 (omega (arith, em, y_beyond E nx D.tight D.pick)) in
      let a = take_out n e (P true) pf.date pf.present in
      let R' = pair (P false) a.0 in
      let p' : SideTake n P R' true = earliest_take {T = R'} true p pf a.1 kp in
      let g = good_run fs (suc n) (join R' F) in
      let h = good_run fs (suc n) (join S' F) in
      let E' : Exchanged (suc n) x y R' S' = both_take_one {R = R'} {S = S'} E nx D.tight D.pick em a.1 kp b.1 kq in
      omega (
        arith,
        as_well {S = R'} true g.0 j C p' p g.1 gp,
        as_well true k h.0 D q q' gq h.1,
        exchange (suc n) x y (join R' F) (join S' F) g.0 h.0 (exchange_join {P = R'} {Q = S'} F E') g.1 h.1,
      )

  pub exchange_served : {n x y d c : ℕ} {P Q R S : Sides} (j k : ℕ) → Exchanged n x y P Q → n ≤ x → GoodStep n P R d → GoodStep n Q S c
      → GoodRun (suc n) (join R F) fs j → GoodRun (suc n) (join S F) fs k → c + k ≤ suc (d + j)
  exchange_served {n} j k E nx p (GoodStep.rest q t) gp gq = absurd (omega (arith, E.x_more.low n (omega arith) nx))
  exchange_served j k E nx (GoodStep.rest p s) (GoodStep.take b l C q) gp gq =
      absurd (omega (arith, tight_fall C.tight, reach_none (exchange_forth E) p))
  exchange_served j k E nx (GoodStep.take false l C p) (GoodStep.take true m D q) gp gq =
      absurd (omega (arith, C.pick, none_either E nx C.tight D.tight D.pick))
  exchange_served j k E nx (GoodStep.take false l C p) (GoodStep.take false m D q) gp gq = omega (arith, both_zero j k E nx C p D q gp gq)
  exchange_served j k E nx (GoodStep.take true l C p) (GoodStep.take false m D q) gp gq = omega (arith, one_zero j k E nx C p D q gp gq)
  exchange_served j k E nx (GoodStep.take true l C p) (GoodStep.take true m D q) gp gq = omega (arith, both_one j k E nx C p D q gp gq)

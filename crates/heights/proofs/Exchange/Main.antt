-- On one future, whoever is ahead takes no fewer 0-jobs in a good run, and an exchange costs at most one. Hence the main claim:
-- no tight run takes more 0-jobs than a good run from the same board, and all good runs take equally many.
use mathlib.Core.Bool.{true, false}
use mathlib.Core.Logic.{⊎_elim}
use mathlib.Core.List.{List, [], ◌∷◌}
use Prim.Native.Nat.{ℕ, suc, ◌+◌, ◌≤◌, ◌<◌}
use native.Mathlib.Omega.{arith}
use Rattle.heights.proofs.Heights.Part.{cmp, fall_in}
use Rattle.heights.proofs.Heights.Reach.{Reach}
use Rattle.heights.proofs.Heights.OneMore.{more_le}
use Rattle.heights.proofs.Heights.TightSlot.{tight_fall, tight_unique}
use Rattle.heights.proofs.Sides.Board.{Sides, join, Slot, served, idle}
use Rattle.heights.proofs.Sides.Tight.{chosen_le}
use Rattle.heights.proofs.Sides.Ahead.{Ahead, ahead_refl}
use Rattle.heights.proofs.Sides.Run.{TightStep, GoodStep, stop, pass, serve, TightRun, GoodRun, good_run}
use Rattle.heights.proofs.Exchange.Condition.{Exchanged, exchange_back}
use Rattle.heights.proofs.Exchange.Later.{exchange_same, exchange_join}
use Rattle.heights.proofs.Exchange.Fresh.{exchange_fresh}
use Rattle.heights.proofs.Exchange.Dominance.{AheadNoLess, ExchangeOne, ahead_served, none_taken, both_taken}
use Rattle.heights.proofs.Exchange.Served.{exchange_served}

-- x has expired: P is ahead
expired : {n x y : ℕ} {P Q : Sides} → Exchanged n x y P Q → x < n → Ahead n P Q
expired {n} {x} {y} {P} {Q} E h = record { side = λ b. elim b as (λ v. Reach n 0 (P v) (Q v)) [ false ↦ zeros | true ↦ ones ]; back = exchange_back E }
  where
    zeros : Reach n 0 (P false) (Q false)
    zeros = record { to = λ s i. (s, omega arith, omega (arith, E.x_more.high s i (omega arith))) }

    ones : Reach n 0 (P true) (Q true)
    ones = record { to = λ s i. (s, omega arith, omega (arith, more_le E.y_more s i)) }

-- the first slot of a future, from what is claimed for the slots after it
module _ (fs : List (Slot Sides)) (F : Sides) (ih : AheadNoLess fs × ExchangeOne fs) where
  idle_ahead : AheadNoLess (idle F ∷ fs)
  idle_ahead n P Q j k a (pass R s g) (pass S t h) = none_taken fs F ih.0 a s t g h

  idle_exchange : ExchangeOne (idle F ∷ fs)
  idle_exchange n x y P Q j k e (pass R s g) (pass S t h) = ih.1 (suc n) x y (join R F) (join S F) j k (exchange_join F (exchange_same e s t)) g h

  served_ahead : AheadNoLess (served F ∷ fs)
  served_ahead n P Q j k a (serve R d i p g e) (serve S c m q h f) = omega (arith, ahead_served fs F ih.0 ih.1 i m a p q g h)

  in_date : (n x y : ℕ) (P Q : Sides) (j k : ℕ) → n ≤ x → Exchanged n x y P Q → GoodRun n P (served F ∷ fs) j → GoodRun n Q (served F ∷ fs) k → k ≤ suc j
  in_date n x y P Q j k l E (serve R d i p g e) (serve S c m q h f) = omega (arith, exchange_served fs F ih.0 ih.1 i m E l p q g h)

  served_exchange : ExchangeOne (served F ∷ fs)
  served_exchange n x y P Q j k E g h =
      ⊎_elim (λ (i : n ≤ x). in_date n x y P Q j k i E g h) (λ (i : x < n). omega (arith, served_ahead n P Q j k (expired E i) g h)) (cmp n x)

both : (fs : List (Slot Sides)) → AheadNoLess fs × ExchangeOne fs
both [] = (λ n P Q j k a g h. none g h, λ n x y P Q j k e g h. omega (arith, none g h))
  where
    none : {n j k : ℕ} {P Q : Sides} → GoodRun n P [] j → GoodRun n Q [] k → k ≤ j
    none stop stop = omega arith
both (idle F ∷ fs) = (idle_ahead fs F (both fs), idle_exchange fs F (both fs))
both (served F ∷ fs) = (served_ahead fs F (both fs), served_exchange fs F (both fs))

pub ahead_no_less : (fs : List (Slot Sides)) → AheadNoLess fs
ahead_no_less fs = (both fs).0

pub exchange_one : (fs : List (Slot Sides)) → ExchangeOne fs
exchange_one fs = (both fs).1

module _ (fs : List (Slot Sides)) (F : Sides) where
  -- from Q, a tight run goes to R and a good run to S; j counts a good run from R on
  main_served : {n d c : ℕ} {Q R S : Sides} (j k : ℕ) → TightStep n Q R d → GoodStep n Q S c → GoodRun (suc n) (join R F) fs j
      → GoodRun (suc n) (join S F) fs k
      → d + j ≤ c + k
  main_served {n} {Q = Q} j k (TightStep.rest p s) (GoodStep.rest q t) gp gq =
      omega (arith, none_taken fs F (ahead_no_less fs) (ahead_refl n Q) t s gq gp)
  main_served j k (TightStep.rest p s) (GoodStep.take b l C q) gp gq = absurd (omega (arith, tight_fall C.tight))
  main_served j k (TightStep.take b p) (GoodStep.rest q t) gp gq = absurd (omega (arith, tight_fall p.tight))
  main_served {n} {Q = Q} j k (TightStep.take false p) (GoodStep.take false l C q) gp gq =
      omega (arith, both_taken fs F (ahead_no_less fs) (ahead_refl n Q) false q p gq gp)
  main_served {n} {Q = Q} j k (TightStep.take true p) (GoodStep.take true l C q) gp gq =
      omega (arith, both_taken fs F (ahead_no_less fs) (ahead_refl n Q) true q p gq gp)
  main_served j k (TightStep.take false p) (GoodStep.take true l C q) gp gq =
      absurd (omega (arith, C.pick, fall_in l p.out (omega (arith, p.within, tight_unique p.tight C.tight))))
  main_served {n} {Q = Q} {R} {S} j k (TightStep.take true p) (GoodStep.take false l C q) gp gq =
      let E : Exchanged (suc n) q.last p.last S R =
      exchange_fresh Q C.tight q.tight q.out q.within (chosen_le false C q) q.kept p.out
      (omega (arith, p.within, tight_unique p.tight C.tight)) p.kept
      in
      omega (arith, exchange_one fs (suc n) q.last p.last (join S F) (join R F) k j (exchange_join F E) gq gp)

pub tight_no_more : (fs : List (Slot Sides)) (n : ℕ) (S : Sides) (j k : ℕ) → TightRun n S fs j → GoodRun n S fs k → j ≤ k
tight_no_more [] n S j k stop stop = omega arith
tight_no_more (idle F ∷ fs) n S j k (pass R s r) (pass T t g) =
    let h = good_run fs (suc n) (join R F) in
    omega (arith, tight_no_more fs (suc n) (join R F) j h.0 r h.1, none_taken fs F (ahead_no_less fs) (ahead_refl n S) t s g h.1)
tight_no_more (served F ∷ fs) n S j k (serve R d i p r e) (serve T c m q g f) =
    let h = good_run fs (suc n) (join R F) in
    omega (arith, tight_no_more fs (suc n) (join R F) i h.0 r h.1, main_served fs F h.0 m p q h.1 g)

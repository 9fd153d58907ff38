-- P is ahead of Q: it reaches Q on each side, and Q reaches it as a whole. Then P has a tight job wherever Q has, side by side,
-- and it stays ahead when jobs arrive, when time passes, and when a job tight on its side leaves P and a tight job of that side leaves Q.
use mathlib.Core.Path.{◌≡◌, refl}
use mathlib.Core.Bool.{Bool, true, false, not}
use Prim.Native.Nat.{ℕ, suc, ◌<◌}
use native.Mathlib.Omega.{arith}
use Rattle.heights.proofs.Heights.Part.{Part, ◌⊕◌, same_refl, fall_in, not_above}
use Rattle.heights.proofs.Heights.Reach.{Reach, reach_refl, reach_trans, reach_later, reach_join, reach_sum, reach_same, reach_none, reach_swap, Alike, alike_refl, alike_sym, alike_sum}
use Rattle.heights.proofs.Heights.TightSlot.{TightSlot, tight_swap}
use Rattle.heights.proofs.Heights.Exists.{tight_slot, take_out}
use Rattle.heights.proofs.Heights.Removal.{removal, converse}
use Rattle.heights.proofs.Sides.Board.{Sides, whole, join, pair, SameSides, whole_same, out_side, each_bit}
use Rattle.heights.proofs.Sides.Tight.{inner_tight, TightTake, SideTake, Chosen}

pub record Ahead (n : ℕ) (P Q : Sides) : Type 0 where
  pub side : (b : Bool) → Reach n 0 (P b) (Q b)
  pub back : Reach n 0 (whole Q) (whole P)

-- where C ⊕ D has a tight job of C, A ⊕ B has one of A
same_first : {n l m : ℕ} (A B C D : Part) → Reach n 0 A C → Reach n 0 B D → Reach n 0 (C ⊕ D) (A ⊕ B) → TightSlot n (A ⊕ B) l
    → TightSlot n (C ⊕ D) m → C.at (suc m) < C.at n → A.at (suc l) < A.at n
same_first {n} {l} {m} A B C D r q b T U f =
    go (tight_slot n A (not_above 1 (A.at n) (λ h. omega (arith, reach_none r (omega arith)))))
    (tight_slot n C (omega arith))
  where
    go : (k : ℕ) × TightSlot n A k → (k : ℕ) × TightSlot n C k → A.at (suc l) < A.at n
    go x y =
        let a = take_out n x.0 A x.1.date x.1.present in
        let c = take_out n y.0 C y.1.date y.1.present in
        let e = take_out n l (A ⊕ B) T.date T.present in
        let ac = removal r x.1 a.1 (omega arith) c.1 in
        let up = reach_sum ac (reach_later (suc n) (omega arith) q) in
        let c_out = out_side false (pair C D) (pair c.0 D) c.1 (same_refl (suc n) D) in
        let a_out = out_side false (pair A B) (pair a.0 B) a.1 (same_refl (suc n) B) in
        let down = removal b U c_out (inner_tight false (pair C D) U f y.1) e.1 in
        fall_in l a.1 (converse T e.1 (omega arith) a_out (reach_trans up down))

-- where Q has a tight job of side b, so has P
pub same_choice : {n l m : ℕ} {P Q : Sides} (b : Bool) → Ahead n P Q → TightSlot n (whole P) l → TightSlot n (whole Q) m
    → (Q b).at (suc m) < (Q b).at n → (P b).at (suc l) < (P b).at n
same_choice {P = P} {Q} false a T U f = same_first (P false) (P true) (Q false) (Q true) (a.side false) (a.side true) a.back T U f
same_choice {P = P} {Q} true a T U f =
    same_first (P true) (P false) (Q true) (Q false) (a.side true) (a.side false) (reach_swap (Q false) (Q true) (P false) (P true) a.back)
    (tight_swap (P false) (P true) T) (tight_swap (Q false) (Q true) U) f

pub ahead_refl : (n : ℕ) (P : Sides) → Ahead n P P
ahead_refl n P = record { side = λ b. reach_refl n (P b); back = reach_refl n (whole P) }

-- as a whole P reaches Q as well
pub ahead_whole : {n : ℕ} {P Q : Sides} → Ahead n P Q → Reach n 0 (whole P) (whole Q)
ahead_whole a = reach_sum (a.side false) (a.side true)

pub ahead_join : {n : ℕ} {P Q : Sides} (F : Sides) → Ahead n P Q → Ahead n (join P F) (join Q F)
ahead_join {n} {P} {Q} F a =
    record {
      side = λ b. reach_join (F b) (a.side b);
      back =
          record { to = λ s h. let t = a.back.to s h in (t.0, t.1, omega (arith, (F false).anti s t.0 t.1, (F true).anti s t.0 t.1)) };
    }

pub ahead_same : {n : ℕ} {P Q R S : Sides} → Ahead n P Q → SameSides (suc n) P R → SameSides (suc n) Q S → Ahead (suc n) R S
ahead_same a k l = record { side = λ b. reach_same (a.side b) (k b) (l b); back = reach_same a.back (whole_same l) (whole_same k) }

-- a job tight on its side b leaves P, a tight job of side b leaves Q
pub ahead_take : {n : ℕ} {P Q R S : Sides} (b : Bool) → Ahead n P Q → SideTake n P R b → TightTake n Q S b → Ahead (suc n) R S
ahead_take {n} {P} {Q} {R} {S} b a p q =
    record {
      side =
          each_bit (λ x. Reach (suc n) 0 (R x) (S x)) b (removal (a.side b) p.tight p.out p.within q.out)
          (reach_same (a.side (not b)) p.kept q.kept);
      back = removal a.back q.tight (out_side b Q S q.out q.kept) q.within (out_side b P R p.out p.kept);
    }

-- boards whose sides are alike: the same side is chosen
alike_ahead : {n : ℕ} {P Q : Sides} → ((b : Bool) → Alike n (P b) (Q b)) → Ahead n P Q
alike_ahead a = record { side = λ b. (a b).to; back = (alike_sum (a false) (a true)).fro }

pub same_bit : {n l m : ℕ} {P Q : Sides} (b c : Bool) → ((x : Bool) → Alike n (P x) (Q x)) → Chosen n l P b → Chosen n m Q c → b ≡ c
same_bit false false a x y = refl
same_bit true true a x y = refl
same_bit false true a x y = absurd (omega (arith, y.pick, same_choice false (alike_ahead (λ b. alike_sym (a b))) y.tight x.tight x.pick))
same_bit true false a x y = absurd (omega (arith, x.pick, same_choice false (alike_ahead a) x.tight y.tight y.pick))

-- so only one side of a board is
pub chosen_bit : {n l m : ℕ} {S : Sides} (b c : Bool) → Chosen n l S b → Chosen n m S c → b ≡ c
chosen_bit {n} {S = S} b c x y = same_bit b c (λ b. alike_refl n (S b)) x y

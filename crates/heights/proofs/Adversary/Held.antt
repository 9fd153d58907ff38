-- What keeps every run of positive order on side b while the stuffing lasts, and such a run seen on that side alone.
use mathlib.Core.Path.{◌≡◌, refl, ap, subst}
use mathlib.Core.Bool.{Bool, true, false, not}
use mathlib.Core.List.{List, [], ◌∷◌}
use Prim.Native.Nat.{ℕ, suc, ◌+◌, ◌≤◌}
use native.Mathlib.Omega.{arith}
use lib.ListN.{length}
use Rattle.heights.proofs.Sides.Board.{whole}
use Rattle.heights.proofs.Sides.Tight.{Chosen}
use Rattle.heights.proofs.Trees.Tree.{Tree, total, sides, join_tree, total_same, SameTree}
use Rattle.heights.proofs.Trees.NoRegret.{Down, NoRegret, no_regret_tight, no_regret_whole}
use Rattle.heights.proofs.Trees.Run.{starts, starts_here, Count, Step, rest, take, Run, stop, serve}
use Rattle.heights.proofs.Items.Item.{Item, count, part}
use Rattle.heights.proofs.Items.Side.{side_lift}
use Rattle.heights.proofs.Items.Tree.{tree, slots}
use Rattle.heights.proofs.Items.Lift.{arrive, arrive_here, arrive_other, arrive_whole}
use Rattle.heights.proofs.Adversary.Arrivals.{AllBy, lift_all}
use Rattle.heights.proofs.Adversary.Pinned.{Stuffed, Pinned, pinned_ge, pinned_le, stuffed_step, pinned_step}
use Rattle.heights.proofs.Adversary.Most.{pinned_some}

pub record Held (d t l L : ℕ) (b : Bool) (X : Tree (suc d)) : Type 0 where
  pub pinned : Pinned t l L (whole (sides d X))
  -- side b has the stuffing
  pub stuffed : Stuffed t l (total d (X b))
  -- and if it is the 1-side, no job of the other is up to L
  pub clean : b ≡ true → (total d (X (not b))).at t ≡ (total d (X (not b))).at (suc L)

-- side b is chosen
held_bit : {t l L r : ℕ} (d : ℕ) (X : Tree (suc d)) (b x : Bool) → Held d t l L b X → t ≤ l → Chosen t r (sides d X) x → x ≡ b
held_bit d X false false H h c = refl
held_bit d X true true H h c = refl
held_bit {t} {l} {r = r} d X false true H h c =
    absurd
    (
    omega (
      arith,
      c.pick,
      H.stuffed.more,
      (total d (X false)).anti t l h,
      (total d (X false)).anti (suc l) (suc r) (omega (arith, pinned_ge H.pinned h c.tight)),
    )
    )
held_bit {t} {L = L} {r} d X true false H h c =
    absurd (omega (arith, c.pick, H.clean refl, (total d (X false)).anti (suc r) (suc L) (omega (arith, pinned_le H.pinned h c.tight))))

-- no job of the other side is up to L, none leaves it, and none arrives there
pub clean_next : {t L : ℕ} (d : ℕ) (b : Bool) (X T : Tree (suc d)) (F : List Item) → t ≤ L → SameTree d (suc t) (X (not b)) (T (not b))
    → (total d (X (not b))).at t ≡ (total d (X (not b))).at (suc L)
    → (total d (arrive d b T F (not b))).at (suc t) ≡ (total d (arrive d b T F (not b))).at (suc L)
clean_next {t} {L} d b X T F h k e =
    let z = total d (X (not b)) in
    let s = total_same d (suc t) (X (not b)) (T (not b)) k in
    omega (
      arith,
      arrive_other d b T F (suc t),
      arrive_other d b T F (suc L),
      s.is (suc t) (omega arith),
      s.is (suc L) (omega arith),
      z.anti t (suc t) (omega arith),
      z.anti (suc t) (suc L) (omega arith),
    )

held_down : (i d t l L : ℕ) (b : Bool) (X T : Tree (suc d)) (F : List Item) (w : List Bool) → Held d t l L b X → suc t ≤ l → count F (suc l) ≡ 0
    → Down d t X T b (NoRegret i d t (X b) (T b) w) → Held d (suc t) l L b (arrive d b T F)
held_down i d t l L b X T F w H h f g =
    let o = no_regret_whole (suc i) d t X T (b ∷ w) (unfold NoRegret in g) in
    let p = no_regret_tight i d t (X b) (T b) w g.inner in
    let y = H.pinned.upto in
    record {
      pinned = pinned_step (part F) (whole (sides d (arrive d b T F))) H.pinned h o f (arrive_whole d b T F);
      stuffed = stuffed_step (part F) (total d (arrive d b T F b)) H.stuffed h p.out f (arrive_here d b T F);
      clean = λ e. clean_next d b X T F (omega arith) g.kept (H.clean e);
    }

-- a step goes down to side b
held_step : (i d t l L : ℕ) (b : Bool) (X T : Tree (suc d)) (a : Count) → Held d t l L b X → t ≤ l → Step (suc i) (suc d) t X T a
    → (w : List Bool) × Down d t X T b (NoRegret i d t (X b) (T b) w) × ((v : List Bool) → a v ≡ starts v (b ∷ w))
unfolding NoRegret
held_step i d t l L b X T a H h (rest z k) = absurd (pinned_some d t l L X H.pinned h z)
held_step i d t l L b X T a H h (take [] g) = absurd g
held_step i d t l L b X T a H h (take (x ∷ w) g) =
    let e = held_bit d X b x H h g.chosen in (
      w,
      subst (λ y. Down d t X T y (NoRegret i d t (X y) (T y) w)) e g,
      λ v. ap (λ (y : Bool). starts v (y ∷ w)) e,
    )

arrive_at : (d : ℕ) (b : Bool) (T : Tree (suc d)) (F : List Item) → arrive d b T F b ≡ join_tree d (T b) (tree d F)
unfolding join_tree tree
arrive_at d b T F = ap (λ (X : List Item). join_tree d (T b) (tree d X)) (side_lift b F)

pub down : {j d n : ℕ} {c : Count} (b : Bool) (T : Tree (suc d)) (F : List Item) (fs : List (List Item)) → Run j d n (arrive d b T F b) (slots d fs) c
    → Run j d n (join_tree d (T b) (tree d F)) (slots d fs) c
down {j} {d} {n} {c} b T F fs r = subst (λ X. Run j d n X (slots d fs) c) (arrive_at d b T F) r

pub restrict : (i d l L t : ℕ) (b : Bool) (fs : List (List Item)) (X : Tree (suc d)) (c : Count) → AllBy l fs → t + length fs ≤ suc l
    → (t ≤ l → Held d t l L b X)
    → Run (suc i) (suc d) t X (slots (suc d) (lift_all b fs)) c → Run i d t (X b) (slots d fs) (λ v. c (b ∷ v))
unfolding slots lift_all AllBy
restrict i d l L t b [] X c a h H (stop p) = stop (λ v. p (b ∷ v))
restrict i d l L t b (F ∷ fs) X c a h H (serve T g e s r q) =
    let M = H (omega arith) in
    let x = held_step i d t l L b X T g M (omega arith) s in
    let w = x.0 in
    serve {c = λ v. c (b ∷ v)} (T b) (λ v. starts v w) (λ v. e (b ∷ v)) (take w x.1.inner)
    (
    down b T F fs
    (restrict i d l L (suc t) b fs (arrive d b T F) e a.1 (omega arith) (λ k. held_down i d t l L b X T F w M k a.0 x.1) r)
    )
    (λ v. omega (arith, q (b ∷ v), x.2 (b ∷ v), starts_here b v w))

-- Before each slot the jobs that wait have room: in the slots from a to b, a not yet past, no more of them must be baked than there are slots. A job whose
-- first slot has come must be baked from the next slot on.
use mathlib.Core.Path.{◌≡◌, ap, subst, ◌∙◌}
use mathlib.Core.Bool.{Bool, true, false, ◌&&◌}
use mathlib.Core.Logic.{◌⊎◌, inl, inr}
use mathlib.Core.List.{List}
use Prim.Native.Nat.{ℕ, suc, ◌-◌, ◌≤◌, ◌<◌, max}
use native.Mathlib.Omega.{arith}
use lib.Dec.{leb}
use lib.ListN.{length}
use borrow.Author.Tests.{leb-true, le-leb}
use Rattle.lists.specs.Select.{every}
use Rattle.lists.proofs.Tests.{cmp, never, and_left, and_right, and_intro}
use Rattle.matching.specs.declared.Window.{Window}
use Rattle.matching.specs.Below.{count_below}
use Rattle.matching.specs.Windows.{first_of, last_of, inside, is_window}
use Rattle.matching.specs.Choice.{is_in, count_within, all_fit}
use Rattle.matching.specs.Layout.{has_come}
use Rattle.matching.proofs.Below.Counting.{last_or, count_mono, count_some}
use Rattle.matching.proofs.Below.Pigeonhole.{without, without_other, count_without}
use Rattle.matching.proofs.Windows.{window_at, inside_yes}
use Rattle.matching.proofs.Choice.Fits.{hall}
use Rattle.matching.specs.Hindsight.{NoneNext, IsNext}

-- after s slots: the job must be baked in the slots from a to b
must : List Window → (s a b i : ℕ) → Bool
must ws s a b i = leb a (max (first_of ws i) (suc s)) && leb (last_of ws i) b

module _ (ws : List Window) (s a b i : ℕ) where
  must_yes : a ≤ max (first_of ws i) (suc s) → last_of ws i ≤ b → must ws s a b i ≡ true
  unfolding must
  must_yes h l = and_intro (leb a (max (first_of ws i) (suc s))) (leb (last_of ws i) b) (le-leb a (max (first_of ws i) (suc s)) h) (le-leb (last_of ws i) b l)

  must_from : must ws s a b i ≡ true → a ≤ max (first_of ws i) (suc s)
  unfolding must
  must_from e = leb-true a (max (first_of ws i) (suc s)) (and_left (leb a (max (first_of ws i) (suc s))) (leb (last_of ws i) b) e)

  must_to : must ws s a b i ≡ true → last_of ws i ≤ b
  unfolding must
  must_to e = leb-true (last_of ws i) b (and_right (leb a (max (first_of ws i) (suc s))) (leb (last_of ws i) b) e)

-- the jobs that wait and must be baked in the slots from a to b
load : List Window → List Bool → (s a b : ℕ) → ℕ
load ws w s a b = count_below (λ i. is_in w i && must ws s a b i) (length ws)

pub HasRoom : List Window → List Bool → ℕ → Type 0
HasRoom ws w s = (a b : ℕ) → suc s ≤ a → load ws w s a b ≤ suc b - a

load_mono : (ws : List Window) (w v : List Bool) (s t a b e f : ℕ)
    → ((i : ℕ) → i < length ws → is_in w i ≡ true → must ws s a b i ≡ true → (is_in v i ≡ true) × (must ws t e f i ≡ true))
    → load ws w s a b ≤ load ws v t e f
unfolding load
load_mono ws w v s t a b e f g =
    count_mono (λ i. is_in w i && must ws s a b i) (λ i. is_in v i && must ws t e f i) (length ws)
    (λ i h k.
    let r = g i h (and_left (is_in w i) (must ws s a b i) k) (and_right (is_in w i) (must ws s a b i) k) in
    and_intro (is_in v i) (must ws t e f i) r.0 r.1)

-- in the beginning
pub room_first : (ws : List Window) → every is_window ws ≡ true → (c : List Bool) → all_fit ws c ≡ true → HasRoom ws c 0
unfolding HasRoom load count_within
room_first ws ok c e a b h =
    omega (
      arith,
      hall ws c ok e a b,
      count_mono (λ i. is_in c i && must ws 0 a b i) (λ i. is_in c i && inside ws a b i) (length ws)
          (λ i l k.
          let m = and_right (is_in c i) (must ws 0 a b i) k in
          and_intro (is_in c i) (inside ws a b i) (and_left (is_in c i) (must ws 0 a b i) k)
          (inside_yes ws a b i (omega (arith, must_from ws 0 a b i m, (window_at ws ok i l).from_one)) (must_to ws 0 a b i m))),
    )

-- whoever waits is in date
pub in_date : (ws : List Window) (w : List Bool) (s i : ℕ) → HasRoom ws w s → i < length ws → is_in w i ≡ true → suc s ≤ last_of ws i
unfolding HasRoom load
in_date ws w s i r h e = go (cmp (suc s) (last_of ws i))
  where
    go : (suc s ≤ last_of ws i) ⊎ (last_of ws i < suc s) → suc s ≤ last_of ws i
    go (inl k) = k
    go (inr k) =
        absurd
        (omega (
          arith,
          r (suc s) s (omega arith),
          count_some (λ j. is_in w j && must ws s (suc s) s j) (length ws) i h
              (and_intro (is_in w i) (must ws s (suc s) s i) e (must_yes ws s (suc s) s i (omega arith) (omega arith))),
        ))

-- the next slot is given to q, if there is such a job
module _ (ws : List Window) (w v : List Bool) (s : ℕ) (r : HasRoom ws w s) (fewer : (i : ℕ) → is_in v i ≡ true → is_in w i ≡ true) where
  -- slots after the next one: as before
  later : (a b : ℕ) → suc (suc s) < a → load ws v (suc s) a b ≤ suc b - a
  unfolding HasRoom
  later a b h =
      omega (
        arith,
        r a b (omega arith),
        load_mono ws v w (suc s) s a b a b (λ i l y z. (fewer i y, must_yes ws s a b i (omega (arith, must_from ws (suc s) a b i z)) (must_to ws (suc s) a b i z))),
      )

  -- nobody who is due by b has come
  not_come : (b : ℕ) → ((i : ℕ) → i < length ws → is_in w i ≡ true → last_of ws i ≤ b → has_come ws w (suc s) i ≡ true → ⊥) → load ws v (suc s) (suc (suc s)) b ≤ suc b - suc (suc s)
  unfolding HasRoom has_come
  not_come b g =
      omega (
        arith,
        r (suc (suc s)) b (omega arith),
        load_mono ws v w (suc s) s (suc (suc s)) b (suc (suc s)) b
            (λ i l y z.
            let d = must_to ws (suc s) (suc (suc s)) b i z in
            (fewer i y, must_yes ws s (suc (suc s)) b i (far i l (fewer i y) d (cmp (suc (suc s)) (first_of ws i))) d)),
      )
    where
      far : (i : ℕ) → i < length ws → is_in w i ≡ true → last_of ws i ≤ b → (suc (suc s) ≤ first_of ws i) ⊎ (first_of ws i < suc (suc s)) → suc (suc s) ≤ max (first_of ws i) (suc s)
      far i l y d (inl k) = omega arith
      far i l y d (inr k) = absurd (g i l y d (and_intro (is_in w i) (leb (first_of ws i) (suc s)) y (le-leb (first_of ws i) (suc s) (omega arith))))

  -- the job that gets the slot is due by b
  one_off : (b q : ℕ) → q < length ws → is_in w q ≡ true → last_of ws q ≤ b → is_in v q ≡ false → load ws v (suc s) (suc (suc s)) b ≤ suc b - suc (suc s)
  unfolding HasRoom load
  one_off b q h e d gone =
      let p : ℕ → Bool = λ i. is_in w i && must ws s (suc s) b i in
      omega (
        arith,
        r (suc s) b (omega arith),
        count_without p (length ws) q h (and_intro (is_in w q) (must ws s (suc s) b q) e (must_yes ws s (suc s) b q (omega arith) d)),
        count_mono (λ i. is_in v i && must ws (suc s) (suc (suc s)) b i) (without p q) (length ws)
            (λ i l k.
            let y = and_left (is_in v i) (must ws (suc s) (suc (suc s)) b i) k in
            let z = and_right (is_in v i) (must ws (suc s) (suc (suc s)) b i) k in
            without_other p q i
            (and_intro (is_in w i) (must ws s (suc s) b i) (fewer i y) (must_yes ws s (suc s) b i (omega arith) (must_to ws (suc s) (suc (suc s)) b i z)))
            (λ x. never y (ap (is_in v) x ∙ gone))),
      )

  from_next : ((b : ℕ) → load ws v (suc s) (suc (suc s)) b ≤ suc b - suc (suc s)) → HasRoom ws v (suc s)
  unfolding HasRoom
  from_next f a c h = go (last_or (suc (suc s)) a h)
    where
      go : (suc (suc s) ≡ a) ⊎ (suc (suc s) < a) → load ws v (suc s) a c ≤ suc c - a
      go (inl e) = subst (λ n. load ws v (suc s) n c ≤ suc c - n) e (f c)
      go (inr k) = later a c k

  pub room_nobody : (q : ℕ) → NoneNext ws w (suc s) (length ws) q → HasRoom ws v (suc s)
  room_nobody q t = from_next (λ b. not_come b (λ i l y d c. never c (t.none i l)))

  pub room_somebody : (q : ℕ) → IsNext ws w (suc s) (length ws) q → is_in v q ≡ false → HasRoom ws v (suc s)
  unfolding has_come
  room_somebody q t gone = from_next (λ b. go b (cmp (last_of ws q) b))
    where
      go : (b : ℕ) → (last_of ws q ≤ b) ⊎ (b < last_of ws q) → load ws v (suc s) (suc (suc s)) b ≤ suc b - suc (suc s)
      go b (inl d) = one_off b q t.below (and_left (is_in w q) (leb (first_of ws q) (suc s)) t.come) d gone
      go b (inr d) = not_come b (λ i l y z c. omega (arith, t.least i l c))

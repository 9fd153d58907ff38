-- The arrivals that the adversary sends: one job that must leave at once in each slot up to m, and many jobs with one last slot; and futures of such lists.
use mathlib.Core.Path.{◌≡◌, refl, ap}
use mathlib.Core.Bool.{Bool, true, false}
use mathlib.Core.List.{List, [], ◌∷◌}
use Prim.Native.Nat.{ℕ, zero, suc, ◌-◌, ◌≤◌, ◌<◌, min}
use native.Mathlib.Omega.{arith}
use lib.Dec.{leb}
use lib.ListN.{length}
use borrow.Author.Tests.{leb-true, leb-false}
use Rattle.heights.proofs.Items.Item.{Item, count, count_nil, count_cons, Each}
use Rattle.heights.proofs.Items.Side.{lift}
use Rattle.heights.proofs.Items.Lift.{lift_count}
use Rattle.heights.proofs.Adversary.Allowed.{Grades, beyond, Fit, AllFit, each_lift, Arrivals}

unfoldable pub sole : Bool → Item → List Item
sole true p = p ∷ []
sole false p = []

-- one item with last slot t, as long as t ≤ m
unfoldable pub arrival : (m t : ℕ) → List Bool → List Item
arrival m t g = sole (leb t m) (record { last = t; grade = g })

pub arrival_count : (m t : ℕ) (g : List Bool) (s : ℕ) → count (arrival m t g) s ≡ min (min 1 (suc m - t)) (suc t - s)
unfolding arrival sole
arrival_count m t g s = go (leb t m) refl
  where
    go : (b : Bool) → leb t m ≡ b → count (sole b (record { last = t; grade = g })) s ≡ min (min 1 (suc m - t)) (suc t - s)
    go true e = omega (arith, leb-true t m e, count_cons (record { last = t; grade = g }) [] s, count_nil s)
    go false e = omega (arith, leb-false t m e, count_nil s)

pub arrival_past : (m t : ℕ) (g : List Bool) (s : ℕ) → m < s → count (arrival m t g) s ≡ 0
arrival_past m t g s h = omega (arith, arrival_count m t g s)

pub arrival_out : (m t : ℕ) (g : List Bool) (s : ℕ) → t < s → count (arrival m t g) s ≡ 0
arrival_out m t g s h = omega (arith, arrival_count m t g s)

pub arrival_in : (m t : ℕ) (g : List Bool) → t ≤ m → count (arrival m t g) t ≡ 1
arrival_in m t g h = omega (arith, arrival_count m t g t)

pub arrival_fit : (ok : Grades) (d m t : ℕ) (g : List Bool) → ok g ≡ true → length g ≡ d → Each (Fit ok d t) (arrival m t g)
unfolding arrival sole Each
arrival_fit ok d m t g h k = go (leb t m)
  where
    go : (b : Bool) → Each (Fit ok d t) (sole b (record { last = t; grade = g }))
    go true = (record { allowed = record { in_set = h; bits = k }; date = omega arith }, tt)
    go false = tt

-- k items alike
unfoldable pub copies : ℕ → Item → List Item
copies zero p = []
copies (suc k) p = p ∷ copies k p

pub copies_low : (k : ℕ) (p : Item) (s : ℕ) → s ≤ p.last → count (copies k p) s ≡ k
unfolding copies
copies_low zero p s h = count_nil s
copies_low (suc k) p s h = omega (arith, count_cons p (copies k p) s, copies_low k p s h)

pub copies_high : (k : ℕ) (p : Item) (s : ℕ) → p.last < s → count (copies k p) s ≡ 0
unfolding copies
copies_high zero p s h = count_nil s
copies_high (suc k) p s h = omega (arith, count_cons p (copies k p) s, copies_high k p s h)

pub copies_fit : (ok : Grades) (d n k : ℕ) (p : Item) → Fit ok d n p → Each (Fit ok d n) (copies k p)
unfolding copies Each
copies_fit ok d n zero p f = tt
copies_fit ok d n (suc k) p f = (f, copies_fit ok d n k p f)

-- after each of the k slots from t on, one item for the slot that follows, up to slot m
unfoldable pub feed : (m t k : ℕ) → List Bool → List (List Item)
feed m t zero g = []
feed m t (suc k) g = arrival m (suc t) g ∷ feed m (suc t) k g

pub feed_length : (m t k : ℕ) (g : List Bool) → length (feed m t k g) ≡ k
unfolding feed
feed_length m t zero g = refl
feed_length m t (suc k) g = ap suc (feed_length m (suc t) k g)

pub feed_fit : (ok : Grades) (d m t k : ℕ) (g : List Bool) → ok g ≡ true → length g ≡ d → AllFit ok d (suc t) (feed m t k g)
unfolding feed AllFit
feed_fit ok d m t zero g h i = tt
feed_fit ok d m t (suc k) g h i = (arrival_fit ok d m (suc t) g h i, feed_fit ok d m (suc t) k g h i)

-- nothing comes that can wait past l
unfoldable pub AllBy : ℕ → List (List Item) → Type 0
AllBy l [] = Unit {0}
AllBy l (F ∷ fs) = (count F (suc l) ≡ 0) × AllBy l fs

pub feed_by : (m l t k : ℕ) (g : List Bool) → m ≤ l → AllBy l (feed m t k g)
unfolding feed AllBy
feed_by m l t zero g h = tt
feed_by m l t (suc k) g h = (arrival_past m (suc t) g (suc l) (omega arith), feed_by m l (suc t) k g h)

-- a bit in front of each grade
unfoldable pub lift_all : Bool → List (List Item) → List (List Item)
lift_all b [] = []
lift_all b (F ∷ fs) = lift b F ∷ lift_all b fs

pub lift_length : (b : Bool) (fs : List (List Item)) → length (lift_all b fs) ≡ length fs
unfolding lift_all
lift_length b [] = refl
lift_length b (F ∷ fs) = ap suc (lift_length b fs)

pub lift_by : (l : ℕ) (b : Bool) (fs : List (List Item)) → AllBy l fs → AllBy l (lift_all b fs)
unfolding lift_all AllBy
lift_by l b [] a = tt
lift_by l b (F ∷ fs) a = (omega (arith, lift_count b F (suc l), a.0), lift_by l b fs a.1)

pub lift_fit : (ok : Grades) (d n : ℕ) (b : Bool) (fs : List (List Item)) → AllFit (beyond b ok) d n fs → AllFit ok (suc d) n (lift_all b fs)
unfolding lift_all AllFit
lift_fit ok d n b [] a = tt
lift_fit ok d n b (F ∷ fs) a = (each_lift ok d n b F a.0, lift_fit ok d (suc n) b fs a.1)

abbrev pub lift_arrivals : {ok : Grades} {d n : ℕ} (b : Bool) → Arrivals (beyond b ok) d n → Arrivals ok (suc d) n
lift_arrivals {ok} {d} {n} b a =
    record {
      first = lift b a.first;
      first_fit = each_lift ok d (suc n) b a.first a.first_fit;
      later = lift_all b a.later;
      later_fit = lift_fit ok d (suc (suc n)) b a.later a.later_fit;
    }

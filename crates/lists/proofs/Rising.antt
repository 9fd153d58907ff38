-- Rising numbers: all are above the first bound, and no two are equal.
use mathlib.Core.Path.{◌≡◌, refl}
use mathlib.Core.Bool.{true}
use mathlib.Core.List.{List, [], ◌∷◌, ◌++◌, map, Memᴰ}
use Prim.Native.Nat.{ℕ, ◌≤◌, ◌<◌}
use native.Mathlib.Omega.{arith}
use lib.Dec.{leb, ltb}
use borrow.Author.Tests.{ltb-true, lt-ltb, leb-true, le-leb}
use Rattle.lists.specs.Rise.{rise, never_fall, rising, never_falling}
use Rattle.lists.proofs.Tests.{and_left, and_right, and_intro}

pub rise_above : {x : ℕ} (m : ℕ) {l : List ℕ} → rise m l ≡ true → Memᴰ x l → m < x
unfolding rise
rise_above {x} m h (Memᴰ.head {x = n} {xs = l} e) = omega (arith, ltb-true m n (and_left (ltb m n) (rise n l) h))
rise_above {x} m h (Memᴰ.tail {x = n} {xs = l} k) =
    omega (arith, ltb-true m n (and_left (ltb m n) (rise n l) h), rise_above n (and_right (ltb m n) (rise n l) h) k)

-- a list that rises to n goes on with what rises above n
pub rise_append : (m n : ℕ) (k l : List ℕ) → rise m k ≡ true → ((x : ℕ) → Memᴰ x k → x ≤ n) → m ≤ n → rise n l ≡ true → rise m (k ++ l) ≡ true
unfolding rise
rise_append m n [] [] h b c g = refl
rise_append m n [] (x ∷ l) h b c g =
    and_intro (ltb m x) (rise x l) (lt-ltb m x (omega (arith, ltb-true n x (and_left (ltb n x) (rise x l) g)))) (and_right (ltb n x) (rise x l) g)
rise_append m n (x ∷ k) l h b c g =
    and_intro (ltb m x) (rise x (k ++ l)) (and_left (ltb m x) (rise x k) h)
    (rise_append x n k l (and_right (ltb m x) (rise x k) h) (λ y e. b y (Memᴰ.tail e)) (b x (Memᴰ.head refl)) g)

pub never_fall_above : {x : ℕ} (m : ℕ) {l : List ℕ} → never_fall m l ≡ true → Memᴰ x l → m ≤ x
unfolding never_fall
never_fall_above {x} m h (Memᴰ.head {x = n} {xs = l} e) = omega (arith, leb-true m n (and_left (leb m n) (never_fall n l) h))
never_fall_above {x} m h (Memᴰ.tail {x = n} {xs = l} k) =
    omega (arith, leb-true m n (and_left (leb m n) (never_fall n l) h), never_fall_above n (and_right (leb m n) (never_fall n l) h) k)

-- order alone, and order above a first bound
pub order_of_rise : (m : ℕ) (l : List ℕ) → rise m l ≡ true → rising l ≡ true
unfolding rise rising
order_of_rise m [] h = refl
order_of_rise m (n ∷ l) h = and_right (ltb m n) (rise n l) h

pub order_of_never_fall : (m : ℕ) (l : List ℕ) → never_fall m l ≡ true → never_falling l ≡ true
unfolding never_fall never_falling
order_of_never_fall m [] h = refl
order_of_never_fall m (n ∷ l) h = and_right (leb m n) (never_fall n l) h

module _ {A : Type 0} (f : A → ℕ) where
  pub rise_of_order : (m : ℕ) (l : List A) → rising (map f l) ≡ true → ((a : A) → Memᴰ a l → m < f a) → rise m (map f l) ≡ true
  unfolding rise rising
  rise_of_order m [] h b = refl
  rise_of_order m (a ∷ l) h b = and_intro (ltb m (f a)) (rise (f a) (map f l)) (lt-ltb m (f a) (b a (Memᴰ.head refl))) h

  pub never_fall_of_order : (m : ℕ) (l : List A) → never_falling (map f l) ≡ true → ((a : A) → Memᴰ a l → m ≤ f a) → never_fall m (map f l) ≡ true
  unfolding never_fall never_falling
  never_fall_of_order m [] h b = refl
  never_fall_of_order m (a ∷ l) h b = and_intro (leb m (f a)) (never_fall (f a) (map f l)) (le-leb m (f a) (b a (Memᴰ.head refl))) h

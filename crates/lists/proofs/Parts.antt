-- Rising lists and parts of lists.
use mathlib.Core.Path.{◌≡◌, refl, sym, ap, ◌∙◌}
use mathlib.Core.Bool.{Bool, true, false, cond}
use mathlib.Core.List.Memᴰ
use mathlib.Core.List.{List, [], ◌∷◌, ◌++◌, map, Memᴰ}
use Prim.Native.Nat.{ℕ, zero, suc, ◌-◌, ◌≤◌, ◌<◌, min}
use native.Mathlib.Omega.{arith}
use lib.Dec.{leb, ltb}
use lib.ListN.{length, get_or, take, drop, replicate}
use lib.Seq.{take-nil}
use borrow.Author.Tests.{ltb-true, lt-ltb, leb-true, le-leb}
use Rattle.lists.specs.Select.{select}
use Rattle.lists.specs.Rise.{rise, never_fall}
use Rattle.lists.proofs.Tests.{and_left, and_right, and_intro}

-- a lower bound does as well
pub rise_from : (m n : ℕ) (l : List ℕ) → m ≤ n → rise n l ≡ true → rise m l ≡ true
unfolding rise
rise_from m n [] b h = refl
rise_from m n (x ∷ l) b h =
    and_intro (ltb m x) (rise x l) (lt-ltb m x (omega (arith, ltb-true n x (and_left (ltb n x) (rise x l) h)))) (and_right (ltb n x) (rise x l) h)

pub never_fall_from : (m n : ℕ) (l : List ℕ) → m ≤ n → never_fall n l ≡ true → never_fall m l ≡ true
unfolding never_fall
never_fall_from m n [] b h = refl
never_fall_from m n (x ∷ l) b h =
    and_intro (leb m x) (never_fall x l) (le-leb m x (omega (arith, leb-true n x (and_left (leb n x) (never_fall x l) h)))) (and_right (leb n x) (never_fall x l) h)

pub never_fall_append : (m n : ℕ) (k l : List ℕ) → never_fall m k ≡ true → ((x : ℕ) → Memᴰ x k → x ≤ n) → m ≤ n → never_fall n l ≡ true → never_fall m (k ++ l) ≡ true
unfolding never_fall
never_fall_append m n [] l h b c g = never_fall_from m n l c g
never_fall_append m n (x ∷ k) l h b c g =
    and_intro (leb m x) (never_fall x (k ++ l)) (and_left (leb m x) (never_fall x k) h)
    (never_fall_append x n k l (and_right (leb m x) (never_fall x k) h) (λ y e. b y (Memᴰ.tail e)) (b x (Memᴰ.head refl)) g)

-- a selection of a rising list rises
module _ {A : Type 0} (f : A → ℕ) (p : A → Bool) where
  pub rise_select : (m : ℕ) (l : List A) → rise m (map f l) ≡ true → rise m (map f (select p l)) ≡ true
  unfolding rise select
  rise_select m [] h = refl
  rise_select m (a ∷ l) h = go (p a) (rise_select (f a) l (and_right (ltb m (f a)) (rise (f a) (map f l)) h))
    where
      first : ltb m (f a) ≡ true
      first = and_left (ltb m (f a)) (rise (f a) (map f l)) h

      go : (b : Bool) → rise (f a) (map f (select p l)) ≡ true → rise m (map f (cond b (a ∷ select p l) (select p l))) ≡ true
      go true e = and_intro (ltb m (f a)) (rise (f a) (map f (select p l))) first e
      go false e = rise_from m (f a) (map f (select p l)) (omega (arith, ltb-true m (f a) first)) e

  pub never_fall_select : (m : ℕ) (l : List A) → never_fall m (map f l) ≡ true → never_fall m (map f (select p l)) ≡ true
  unfolding never_fall select
  never_fall_select m [] h = refl
  never_fall_select m (a ∷ l) h = go (p a) (never_fall_select (f a) l (and_right (leb m (f a)) (never_fall (f a) (map f l)) h))
    where
      first : leb m (f a) ≡ true
      first = and_left (leb m (f a)) (never_fall (f a) (map f l)) h

      go : (b : Bool) → never_fall (f a) (map f (select p l)) ≡ true → never_fall m (map f (cond b (a ∷ select p l) (select p l))) ≡ true
      go true e = and_intro (leb m (f a)) (never_fall (f a) (map f (select p l))) first e
      go false e = never_fall_from m (f a) (map f (select p l)) (omega (arith, leb-true m (f a) first)) e

-- selecting before a map or after it
pub select_map : {A B : Type 0} (f : A → B) (p : B → Bool) (l : List A) → map f (select (λ x. p (f x)) l) ≡ select p (map f l)
unfolding select
select_map f p [] = refl
select_map f p (a ∷ l) = go (p (f a)) (select_map f p l)
  where
    go : (b : Bool) → map f (select (λ x. p (f x)) l) ≡ select p (map f l)
        → map f (cond b (a ∷ select (λ x. p (f x)) l) (select (λ x. p (f x)) l)) ≡ cond b (f a ∷ select p (map f l)) (select p (map f l))
    go true e = ap (f a ∷◌) e
    go false e = e

-- what is past one place more was past the place
pub drop_mem_suc : {A : Type 0} {x : A} (n : ℕ) (l : List A) → Memᴰ x (drop (suc n) l) → Memᴰ x (drop n l)
drop_mem_suc zero (a ∷ l) m = Memᴰ.tail m
drop_mem_suc zero [] m = m
drop_mem_suc (suc n) [] m = m
drop_mem_suc (suc n) (a ∷ l) m = drop_mem_suc n l m

pub replicate_mem : {A : Type 0} {x : A} (n : ℕ) (a : A) → Memᴰ x (replicate n a) → x ≡ a
replicate_mem zero a m = absurd (Memᴰ.not-nil m)
replicate_mem (suc n) a (Memᴰ.head e) = e
replicate_mem (suc n) a (Memᴰ.tail m) = replicate_mem n a m

-- what is left of n equal elements
pub drop_replicate : {A : Type 0} (k n : ℕ) (a : A) → drop k (replicate n a) ≡ replicate (n - k) a
drop_replicate zero n a = let e : n ≡ n - zero = omega arith in ap (λ m. replicate m a) e
drop_replicate (suc k) zero a = let e : zero ≡ zero - suc k = omega arith in ap (λ m. replicate m a) e
drop_replicate (suc k) (suc n) a = let e : n - k ≡ suc n - suc k = omega arith in drop_replicate k n a ∙ ap (λ m. replicate m a) e

-- the first n without the first k: n - k of those that are left
pub drop_take : {A : Type 0} (k n : ℕ) (l : List A) → drop k (take n l) ≡ take (n - k) (drop k l)
drop_take zero n l = let e : n ≡ n - zero = omega arith in ap (λ m. take m l) e
drop_take (suc k) zero l = let e : zero ≡ zero - suc k = omega arith in ap (λ m. take m (drop (suc k) l)) e
drop_take (suc k) (suc n) [] = sym (take-nil (suc n - suc k))
drop_take (suc k) (suc n) (a ∷ l) = let e : n - k ≡ suc n - suc k = omega arith in drop_take k n l ∙ ap (λ m. take m (drop k l)) e

-- what a function makes of the element at a place of the list
pub map_at : {A B : Type 0} (f : A → B) (l : List A) (i : ℕ) (d : A) (e : B) → i < length l → get_or (map f l) i e ≡ f (get_or l i d)
map_at f [] i d e h = absurd (omega arith)
map_at f (a ∷ l) zero d e h = refl
map_at f (a ∷ l) (suc i) d e h = map_at f l i d e (omega arith)

-- the i-th and the later ones of the first n elements, each read by f
pub drop_map_take : {A B : Type 0} (f : A → B) (l : List A) (n i : ℕ) (none : A) → i < min n (length l)
    → drop i (map f (take n l)) ≡ f (get_or l i none) ∷ drop (suc i) (map f (take n l))
drop_map_take f [] n i none h = absurd (omega arith)
drop_map_take f (x ∷ l) zero i none h = absurd (omega arith)
drop_map_take f (x ∷ l) (suc n) zero none h = refl
drop_map_take f (x ∷ l) (suc n) (suc i) none h = drop_map_take f l n i none (omega arith)

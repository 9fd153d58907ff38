-- The laws of counting.
use mathlib.Core.Path.{◌≡◌, refl, sym, ap, ◌∙◌}
use mathlib.Core.Bool.{Bool, true, false, ◌&&◌, ◌||◌, cond}
use mathlib.Core.Logic.{◌⊎◌, inl, inr}
use mathlib.Core.List.{List, [], ◌∷◌, ◌++◌, map, Memᴰ}
use Prim.Native.Nat.{ℕ, suc, ◌+◌, ◌-◌, ◌≤◌, min}
use native.Mathlib.Omega.{arith}
use lib.Dec.{leb}
use lib.ListN.{length}
use borrow.Author.Tests.{leb-true, leb-false}
use Rattle.lists.specs.Select.{one_if, select, how_many, has}
use Rattle.lists.proofs.Tests.{never}

pub one_if_most : (b : Bool) → one_if b ≤ 1
unfolding one_if
one_if_most true = omega arith
one_if_most false = omega arith

pub one_if_yes : (b : Bool) → b ≡ true → one_if b ≡ 1
unfolding one_if
one_if_yes true h = refl
one_if_yes false h = never h refl

pub one_if_no : (b : Bool) → b ≡ false → one_if b ≡ 0
unfolding one_if
one_if_no true h = never refl h
one_if_no false h = refl

-- a test that passes only where another does
pub one_if_mono : (a b : Bool) → (a ≡ true → b ≡ true) → one_if a ≤ one_if b
unfolding one_if
one_if_mono true b f = omega (arith, one_if_yes b (f refl))
one_if_mono false b f = omega arith

-- a test that passes only where one of two others does
pub one_if_either : (a b c : Bool) → (a ≡ true → (b ≡ true) ⊎ (c ≡ true)) → one_if a ≤ one_if b + one_if c
unfolding one_if
one_if_either false b c f = omega arith
one_if_either true b c f = go (f refl)
  where
    go : (b ≡ true) ⊎ (c ≡ true) → 1 ≤ one_if b + one_if c
    go (inl e) = omega (arith, one_if_yes b e)
    go (inr e) = omega (arith, one_if_yes c e)

module _ {A : Type 0} (p : A → Bool) where
  pub count_append : (k l : List A) → how_many p (k ++ l) ≡ how_many p k + how_many p l
  unfolding how_many
  count_append [] l = omega arith
  count_append (a ∷ k) l = omega (arith, count_append k l)

  pub count_length : (l : List A) → how_many p l ≤ length l
  unfolding how_many
  count_length [] = omega arith
  count_length (a ∷ l) = omega (arith, count_length l, one_if_most (p a))

  pub count_select : (l : List A) → length (select p l) ≡ how_many p l
  unfolding select how_many one_if
  count_select [] = refl
  count_select (a ∷ l) = go (p a) (count_select l)
    where
      go : (b : Bool) → length (select p l) ≡ how_many p l → length (cond b (a ∷ select p l) (select p l)) ≡ one_if b + how_many p l
      go true e = omega arith
      go false e = omega arith

  pub count_mem : {x : A} {l : List A} → Memᴰ x l → p x ≡ true → 1 ≤ how_many p l
  unfolding how_many
  count_mem (Memᴰ.head {x = a} {xs = l} e) h = omega (arith, one_if_yes (p a) (sym (ap p e) ∙ h))
  count_mem (Memᴰ.tail {x = a} {xs = l} m) h = omega (arith, count_mem m h)

  pub count_none : (l : List A) → ((x : A) → Memᴰ x l → p x ≡ false) → how_many p l ≡ 0
  unfolding how_many
  count_none [] f = refl
  count_none (a ∷ l) f = omega (arith, one_if_no (p a) (f a (Memᴰ.head refl)), count_none l (λ x m. f x (Memᴰ.tail m)))

  pub count_every : (l : List A) → ((x : A) → Memᴰ x l → p x ≡ true) → how_many p l ≡ length l
  unfolding how_many
  count_every [] f = refl
  count_every (a ∷ l) f = omega (arith, one_if_yes (p a) (f a (Memᴰ.head refl)), count_every l (λ x m. f x (Memᴰ.tail m)))

  pub count_has : (l : List A) → has p l ≡ false → how_many p l ≡ 0
  unfolding how_many has one_if
  count_has [] h = refl
  count_has (a ∷ l) h = go (p a) h (λ k. count_has l k)
    where
      go : (b : Bool) → (b || has p l) ≡ false → (has p l ≡ false → how_many p l ≡ 0) → one_if b + how_many p l ≡ 0
      go true e f = never refl e
      go false e f = omega (arith, f e)

module _ {A : Type 0} (p q : A → Bool) where
  pub count_cong : (l : List A) → ((x : A) → Memᴰ x l → p x ≡ q x) → how_many p l ≡ how_many q l
  unfolding how_many
  count_cong [] f = refl
  count_cong (a ∷ l) f = omega (arith, ap one_if (f a (Memᴰ.head refl)), count_cong l (λ x m. f x (Memᴰ.tail m)))

  pub count_mono : (l : List A) → ((x : A) → Memᴰ x l → p x ≡ true → q x ≡ true) → how_many p l ≤ how_many q l
  unfolding how_many
  count_mono [] f = omega arith
  count_mono (a ∷ l) f = omega (arith, one_if_mono (p a) (q a) (f a (Memᴰ.head refl)), count_mono l (λ x m. f x (Memᴰ.tail m)))

  -- each element passes one of the two tests at the most, or one of the two
  pub count_split : (r : A → Bool) (l : List A) → ((x : A) → Memᴰ x l → one_if (r x) ≡ one_if (p x) + one_if (q x)) → how_many r l ≡ how_many p l + how_many q l
  unfolding how_many
  count_split r [] f = omega arith
  count_split r (a ∷ l) f = omega (arith, f a (Memᴰ.head refl), count_split r l (λ x m. f x (Memᴰ.tail m)))

  -- each element that passes a third test passes one of the two
  pub count_cover : (r : A → Bool) (l : List A) → ((x : A) → Memᴰ x l → r x ≡ true → (p x ≡ true) ⊎ (q x ≡ true)) → how_many r l ≤ how_many p l + how_many q l
  unfolding how_many
  count_cover r [] f = omega arith
  count_cover r (a ∷ l) f = omega (arith, one_if_either (r a) (p a) (q a) (f a (Memᴰ.head refl)), count_cover r l (λ x m. f x (Memᴰ.tail m)))

  pub count_in_selection : (l : List A) → how_many p (select q l) ≡ how_many (λ x. q x && p x) l
  unfolding how_many select one_if
  count_in_selection [] = refl
  count_in_selection (a ∷ l) = go (q a) (count_in_selection l)
    where
      go : (b : Bool) → how_many p (select q l) ≡ how_many (λ x. q x && p x) l
          → how_many p (cond b (a ∷ select q l) (select q l)) ≡ one_if (b && p a) + how_many (λ x. q x && p x) l
      go true e = ap (λ n. one_if (p a) + n) e
      go false e = omega arith

pub count_map : {A B : Type 0} (f : A → B) (p : B → Bool) (l : List A) → how_many p (map f l) ≡ how_many (λ x. p (f x)) l
unfolding how_many
count_map f p [] = refl
count_map f p (a ∷ l) = ap (λ n. one_if (p (f a)) + n) (count_map f p l)

-- a test of order, as a number
pub one_leb : (s l : ℕ) → one_if (leb s l) ≡ min 1 (suc l - s)
unfolding one_if
one_leb s l = go (leb s l) refl
  where
    go : (b : Bool) → leb s l ≡ b → one_if b ≡ min 1 (suc l - s)
    go true e = omega (arith, leb-true s l e)
    go false e = omega (arith, leb-false s l e)

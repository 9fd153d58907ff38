-- What passing a test says of the members of a list.
use mathlib.Core.Path.{◌≡◌, refl, sym, ap, ap₂, ◌∙◌, subst}
use mathlib.Core.Bool.{Bool, true, false, ◌&&◌, ◌||◌, cond}
use mathlib.Core.Logic.{◌⊎◌, inl, inr}
use mathlib.Core.List.Memᴰ
use mathlib.Core.List.{List, [], ◌∷◌, ◌++◌, Memᴰ}
use Prim.Native.Nat.{ℕ, zero, suc, ◌≤◌, ◌<◌}
use native.Mathlib.Omega.{arith}
use lib.Dec.{leb}
use lib.ListN.{length, get_or, take}
use borrow.Author.Tests.{le-leb}
use Rattle.lists.specs.Select.{select, every, has}
use Rattle.lists.proofs.Tests.{test, never, and_left, and_right, and_intro, or_cases, or_left, or_right, or_false, cond_true, cond_false}

module _ {A : Type 0} (p : A → Bool) where
  -- the first element of a selection, and the rest
  pub select_yes : (a : A) (l : List A) → p a ≡ true → select p (a ∷ l) ≡ a ∷ select p l
  unfolding select
  select_yes a l h = cond_true (p a) _ _ h

  pub select_no : (a : A) (l : List A) → p a ≡ false → select p (a ∷ l) ≡ select p l
  unfolding select
  select_no a l h = cond_false (p a) _ _ h

  -- what is selected is in the list and passes
  pub select_mem : (x : A) (l : List A) → Memᴰ x (select p l) → Memᴰ x l × (p x ≡ true)
  unfolding select
  select_mem x [] m = absurd (Memᴰ.not-nil m)
  select_mem x (a ∷ l) m = go (test (p a)) (λ k. select_mem x l k)
    where
      go : (p a ≡ true) ⊎ (p a ≡ false) → (Memᴰ x (select p l) → Memᴰ x l × (p x ≡ true)) → Memᴰ x (a ∷ l) × (p x ≡ true)
      go (inl h) f =
          elim (Memᴰ.cases_cons (subst (Memᴰ x) (select_yes a l h) m)) [
            | inl e ↦ (Memᴰ.head e, ap p e ∙ h)
            | inr k ↦ (Memᴰ.tail (f k).0, (f k).1)
          ]
      go (inr h) f = let r = f (subst (Memᴰ x) (select_no a l h) m) in (Memᴰ.tail r.0, r.1)

  -- what is in the list and passes is selected
  pub mem_select : {x : A} {l : List A} → Memᴰ x l → p x ≡ true → Memᴰ x (select p l)
  mem_select {x} (Memᴰ.head {x = a} {xs = l} e) h = subst (Memᴰ x) (sym (select_yes a l (sym (ap p e) ∙ h))) (Memᴰ.head e)
  mem_select {x} (Memᴰ.tail {x = a} {xs = l} m) h = go (test (p a)) (mem_select m h)
    where
      go : (p a ≡ true) ⊎ (p a ≡ false) → Memᴰ x (select p l) → Memᴰ x (select p (a ∷ l))
      go (inl k) n = subst (Memᴰ x) (sym (select_yes a l k)) (Memᴰ.tail n)
      go (inr k) n = subst (Memᴰ x) (sym (select_no a l k)) n

  pub select_append : (k l : List A) → select p (k ++ l) ≡ select p k ++ select p l
  unfolding select
  select_append [] l = refl
  select_append (a ∷ k) l = go (p a) (select_append k l)
    where
      go : (b : Bool) → select p (k ++ l) ≡ select p k ++ select p l → cond b (a ∷ select p (k ++ l)) (select p (k ++ l)) ≡ cond b (a ∷ select p k) (select p k) ++ select p l
      go true e = ap (a ∷◌) e
      go false e = e

  -- every member passes
  pub every_mem : {x : A} {l : List A} → every p l ≡ true → Memᴰ x l → p x ≡ true
  unfolding every
  every_mem h (Memᴰ.head {x = a} {xs = l} e) = ap p e ∙ and_left (p a) (every p l) h
  every_mem h (Memᴰ.tail {x = a} {xs = l} m) = every_mem (and_right (p a) (every p l) h) m

  pub mem_every : (l : List A) → ((x : A) → Memᴰ x l → p x ≡ true) → every p l ≡ true
  unfolding every
  mem_every [] f = refl
  mem_every (a ∷ l) f = and_intro (p a) (every p l) (f a (Memᴰ.head refl)) (mem_every l (λ x m. f x (Memᴰ.tail m)))

  pub every_append : (k l : List A) → every p k ≡ true → every p l ≡ true → every p (k ++ l) ≡ true
  unfolding every
  every_append [] l h g = g
  every_append (a ∷ k) l h g = and_intro (p a) (every p (k ++ l)) (and_left (p a) (every p k) h) (every_append k l (and_right (p a) (every p k) h) g)

  -- some member passes
  pub has_mem : (l : List A) → has p l ≡ true → (x : A) × Memᴰ x l × (p x ≡ true)
  unfolding has
  has_mem [] h = never h refl
  has_mem (a ∷ l) h = go (or_cases (p a) (has p l) h) (λ k. has_mem l k)
    where
      go : (p a ≡ true) ⊎ (has p l ≡ true) → (has p l ≡ true → (x : A) × Memᴰ x l × (p x ≡ true)) → (x : A) × Memᴰ x (a ∷ l) × (p x ≡ true)
      go (inl k) f = (a, Memᴰ.head refl, k)
      go (inr k) f = let r = f k in (r.0, Memᴰ.tail r.1, r.2)

  pub mem_has : {x : A} {l : List A} → Memᴰ x l → p x ≡ true → has p l ≡ true
  unfolding has
  mem_has (Memᴰ.head {x = a} {xs = l} e) h = or_left (p a) (has p l) (sym (ap p e) ∙ h)
  mem_has (Memᴰ.tail {x = a} {xs = l} m) h = or_right (p a) (has p l) (mem_has m h)

  pub has_none : {x : A} {l : List A} → has p l ≡ false → Memᴰ x l → p x ≡ false
  unfolding has
  has_none h (Memᴰ.head {x = a} {xs = l} e) = ap p e ∙ (or_false (p a) (has p l) h).0
  has_none h (Memᴰ.tail {x = a} {xs = l} m) = has_none (or_false (p a) (has p l) h).1 m

  pub none_has : (l : List A) → ((x : A) → Memᴰ x l → p x ≡ false) → has p l ≡ false
  unfolding has
  none_has [] f = refl
  none_has (a ∷ l) f = ap₂ ◌||◌ (f a (Memᴰ.head refl)) (none_has l (λ x m. f x (Memᴰ.tail m)))

-- tests that agree on the members select the same, and are passed by some member together
module _ {A : Type 0} (p q : A → Bool) where
  pub select_cong : (l : List A) → ((x : A) → Memᴰ x l → p x ≡ q x) → select p l ≡ select q l
  unfolding select
  select_cong [] f = refl
  select_cong (a ∷ l) f = ap₂ (λ b k. cond b (a ∷ k) k) (f a (Memᴰ.head refl)) (select_cong l (λ x m. f x (Memᴰ.tail m)))

  pub has_cong : (l : List A) → ((x : A) → Memᴰ x l → p x ≡ q x) → has p l ≡ has q l
  unfolding has
  has_cong [] f = refl
  has_cong (a ∷ l) f = ap₂ ◌||◌ (f a (Memᴰ.head refl)) (has_cong l (λ x m. f x (Memᴰ.tail m)))

  -- a selection of a selection
  pub select_select : (l : List A) → select p (select q l) ≡ select (λ x. q x && p x) l
  unfolding select
  select_select [] = refl
  select_select (a ∷ l) = go (q a) (select_select l)
    where
      go : (b : Bool) → select p (select q l) ≡ select (λ x. q x && p x) l
          → select p (cond b (a ∷ select q l) (select q l)) ≡ cond (b && p a) (a ∷ select (λ x. q x && p x) l) (select (λ x. q x && p x) l)
      go true e = ap (λ k. cond (p a) (a ∷ k) k) e
      go false e = e

-- all pass: nothing is left out
pub select_all : {A : Type 0} (p : A → Bool) (l : List A) → ((x : A) → Memᴰ x l → p x ≡ true) → select p l ≡ l
unfolding select
select_all p [] f = refl
select_all p (a ∷ l) f = ap₂ (λ b k. cond b (a ∷ k) k) (f a (Memᴰ.head refl)) (select_all p l (λ x m. f x (Memᴰ.tail m)))

-- a comparison that each member passes
pub le_every : {A : Type 0} {f g : A → ℕ} (l : List A) → ((x : A) → Memᴰ x l → f x ≤ g x) → every (λ x. leb (f x) (g x)) l ≡ true
le_every {f = f} {g = g} l h = mem_every _ l (λ x m. le-leb (f x) (g x) (h x m))

-- an element before the place n is among the first n
pub take_mem : {A : Type 0} (l : List A) (n i : ℕ) (d : A) → i < n → i < length l → Memᴰ (get_or l i d) (take n l)
take_mem [] n i d h k = absurd (omega arith)
take_mem (a ∷ l) zero i d h k = absurd (omega arith)
take_mem (a ∷ l) (suc n) zero d h k = Memᴰ.head refl
take_mem (a ∷ l) (suc n) (suc i) d h k = Memᴰ.tail (take_mem l n i d (omega arith) (omega arith))

-- what holds of each member and of one element more holds of each member of the longer list
pub each_more : {A : Type 0} (P : A → Type 0) (l : List A) {a : A} → ((x : A) → Memᴰ x l → P x) → P a → (x : A) → Memᴰ x (l ++ (a ∷ [])) → P x
each_more P l {a} f h x m =
    elim (Memᴰ.append_cases l m) [
      | inl k ↦ f x k
      | inr k ↦ subst P (sym (Memᴰ.eq_of_singleton k)) h
    ]

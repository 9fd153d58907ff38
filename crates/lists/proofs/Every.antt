-- A test that every element of a list passes: so do those of a part, the one at a place, equal ones, and what a function makes of any; with one element more.
use mathlib.Core.Path.{◌≡◌, sym, refl, ap, ◌∙◌}
use mathlib.Core.Bool.{Bool, true, ◌&&◌, and-true, and_assoc}
use mathlib.Core.List.{List, [], ◌∷◌, map}
use Prim.Native.Nat.{ℕ, zero, suc, ◌<◌}
use native.Mathlib.Omega.{arith}
use lib.ListN.{length, take, drop, get_or, replicate}
use Rattle.lists.specs.Select.{every}
use Rattle.lists.proofs.Tests.{and_left, and_right, and_intro}

module _ {A : Type 0} (p : A → Bool) where
  pub every_take : (n : ℕ) (l : List A) → every p l ≡ true → every p (take n l) ≡ true
  unfolding every
  every_take zero l h = refl
  every_take (suc n) [] h = refl
  every_take (suc n) (a ∷ l) h = and_intro (p a) (every p (take n l)) (and_left (p a) (every p l) h) (every_take n l (and_right (p a) (every p l) h))

  pub every_drop : (n : ℕ) (l : List A) → every p l ≡ true → every p (drop n l) ≡ true
  unfolding every
  every_drop zero l h = h
  every_drop (suc n) [] h = refl
  every_drop (suc n) (a ∷ l) h = every_drop n l (and_right (p a) (every p l) h)

  -- the element at a place of the list
  pub every_at : (l : List A) (i : ℕ) (d : A) → every p l ≡ true → i < length l → p (get_or l i d) ≡ true
  unfolding every
  every_at [] i d h k = absurd (omega arith)
  every_at (a ∷ l) zero d h k = and_left (p a) (every p l) h
  every_at (a ∷ l) (suc i) d h k = every_at l i d (and_right (p a) (every p l) h) (omega arith)

  -- one element more is tested
  pub every_more : (l : List A) (i : ℕ) (d : A) → i < length l → every p (take (suc i) l) ≡ (every p (take i l) && p (get_or l i d))
  unfolding every
  every_more [] i d h = absurd (omega arith)
  every_more (a ∷ l) zero d h = and-true (p a)
  every_more (a ∷ l) (suc i) d h = ap (λ b. p a && b) (every_more l i d (omega arith)) ∙ sym (and_assoc (p a) (every p (take i l)) (p (get_or l i d)))

  pub every_replicate : (n : ℕ) (a : A) → p a ≡ true → every p (replicate n a) ≡ true
  unfolding every
  every_replicate zero a h = refl
  every_replicate (suc n) a h = and_intro (p a) (every p (replicate n a)) h (every_replicate n a h)

-- what a function makes of any element passes
pub every_map : {A B : Type 0} (p : B → Bool) (f : A → B) → ((a : A) → p (f a) ≡ true) → (l : List A) → every p (map f l) ≡ true
unfolding every
every_map p f h [] = refl
every_map p f h (a ∷ l) = and_intro (p (f a)) (every p (map f l)) (h a) (every_map p f h l)

-- The first element that passes a test.
use mathlib.Core.Path.{◌≡◌, sym, ap, ◌∙◌}
use mathlib.Core.Bool.{Bool, true, false}
use mathlib.Core.Logic.{◌⊎◌, inl, inr}
use mathlib.Core.Option.{some}
use mathlib.Core.List.{List, [], ◌∷◌, Memᴰ}
use Prim.Native.Nat.{ℕ}
use native.Mathlib.Omega.{arith}
use Rattle.lists.specs.Select.{find}
use Rattle.lists.proofs.Tests.{test, cond_true, cond_false}

-- it is an element, and passes
pub find_is : {A : Type 0} (p : A → Bool) (l : List A) (x : A) → find p l ≡ some x → Memᴰ x l × (p x ≡ true)
unfolding find
find_is p [] x e = let z : ◌≡◌ {A = ℕ} 0 1 = cc in absurd (omega arith)
find_is p (a ∷ l) x e = go (test (p a)) (find_is p l x)
  where
    go : (p a ≡ true) ⊎ (p a ≡ false) → (find p l ≡ some x → Memᴰ x l × (p x ≡ true)) → Memᴰ x (a ∷ l) × (p x ≡ true)
    go (inl h) ih =
        let f : some a ≡ some x = sym (cond_true (p a) (some a) (find p l) h) ∙ e in
        let q : a ≡ x = cc in
        (Memᴰ.head (sym q), sym (ap p q) ∙ h)
    go (inr h) ih = let k = ih (sym (cond_false (p a) (some a) (find p l) h) ∙ e) in (Memᴰ.tail k.0, k.1)

-- the first that passes is the first element, or it is found behind it
module _ {A : Type 0} (p : A → Bool) (a : A) (l : List A) where
  pub find_here : p a ≡ true → find p (a ∷ l) ≡ some a
  unfolding find
  find_here h = cond_true (p a) (some a) (find p l) h

  pub find_later : p a ≡ false → find p (a ∷ l) ≡ find p l
  unfolding find
  find_later h = cond_false (p a) (some a) (find p l) h

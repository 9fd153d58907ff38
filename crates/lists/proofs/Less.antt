-- A list without one of its elements.
use mathlib.Core.Path.{◌≡◌, refl, ap, subst}
use mathlib.Core.Bool.{Bool}
use mathlib.Core.List.{List, ◌∷◌, Memᴰ}
use Prim.Native.Nat.{suc, ◌+◌}
use native.Mathlib.Omega.{arith}
use lib.ListN.{length}
use Rattle.lists.specs.Select.{one_if, how_many}

-- L' is L without one p
pub data Less {A : Type 0} (p : A) : List A → List A → Type 0 where
  here : {L : List A} → Less p (p ∷ L) L
  there : {r : A} {L L' : List A} → Less p L L' → Less p (r ∷ L) (r ∷ L')

pub less_mem : {A : Type 0} {p : A} {L L' : List A} → Less p L L' → Memᴰ p L
less_mem here = Memᴰ.head refl
less_mem (there l) = Memᴰ.tail (less_mem l)

pub mem_less : {A : Type 0} {p : A} {L : List A} → Memᴰ p L → (L' : List A) × Less p L L'
mem_less {p = p} (Memᴰ.head {x = r} {xs = L} e) = (L, subst (λ x. Less p (x ∷ L) L) e here)
mem_less (Memᴰ.tail {x = r} m) = let s = mem_less m in (r ∷ s.0, there s.1)

pub count_less : {A : Type 0} (f : A → Bool) {p : A} {L L' : List A} → Less p L L' → how_many f L ≡ one_if (f p) + how_many f L'
unfolding how_many
count_less f here = refl
count_less f (there l) = omega (arith, count_less f l)

pub length_less : {A : Type 0} {p : A} {L L' : List A} → Less p L L' → length L ≡ suc (length L')
length_less here = refl
length_less (there l) = ap suc (length_less l)

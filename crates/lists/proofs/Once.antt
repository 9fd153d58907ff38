-- Of rising values each is there once.
use mathlib.Core.Path.{◌≡◌, sym, ap, ap₂}
use mathlib.Core.Bool.{Bool, true, ◌&&◌}
use mathlib.Core.List.Memᴰ
use mathlib.Core.List.{List, map, Memᴰ}
use Prim.Native.Nat.{ℕ}
use native.Mathlib.Omega.{arith}
use lib.Dec.{ltb, eqb}
use borrow.Author.Tests.{eq-eqb, ne_eqb}
use Rattle.lists.specs.Select.{one_if, how_many}
use Rattle.lists.specs.Rise.{rise}
use Rattle.lists.proofs.Tests.{and_right}
use Rattle.lists.proofs.Rising.{rise_above}
use Rattle.lists.proofs.Counting.{one_if_no, count_none}

module _ {A : Type 0} (f : A → ℕ) (p : A → Bool) where
  -- the elements that pass a test and have the value of one of them: that one, if it passes
  pub count_once : {q : A} (m : ℕ) {l : List A} → rise m (map f l) ≡ true → Memᴰ q l → how_many (λ x. eqb (f x) (f q) && p x) l ≡ one_if (p q)
  unfolding how_many rise
  count_once {q} m h (Memᴰ.head {x = a} {xs = l} e) =
      let later : rise (f a) (map f l) ≡ true = and_right (ltb m (f a)) (rise (f a) (map f l)) h in
      let here : one_if (eqb (f a) (f q) && p a) ≡ one_if (p q) =
      ap₂ (λ c d. one_if (c && d)) (eq-eqb (f a) (f q) (sym (ap f e))) (sym (ap p e)) in
      omega (
        arith,
        here,
        count_none (λ x. eqb (f x) (f q) && p x) l
            (λ x i. ap (λ c. c && p x) (ne_eqb (f x) (f q) (omega (arith, ap f e, rise_above (f a) later (Memᴰ.map f i))))),
      )
  count_once {q} m h (Memᴰ.tail {x = a} {xs = l} i) =
      let later : rise (f a) (map f l) ≡ true = and_right (ltb m (f a)) (rise (f a) (map f l)) h in
      let here : one_if (eqb (f a) (f q) && p a) ≡ 0 =
      one_if_no (eqb (f a) (f q) && p a) (ap (λ c. c && p a) (ne_eqb (f a) (f q) (omega (arith, rise_above (f a) later (Memᴰ.map f i))))) in
      omega (arith, here, count_once (f a) later i)

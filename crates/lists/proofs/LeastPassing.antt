-- The least number from 1 on that passes a test.
use mathlib.Core.Path.{◌≡◌, refl, sym, subst}
use mathlib.Core.Bool.{Bool, true, false}
use mathlib.Core.Logic.{◌⊎◌, inl, inr, ⊎_elim}
use mathlib.Core.List.Memᴰ
use mathlib.Core.List.{List, [], ◌∷◌, Memᴰ}
use Prim.Native.Nat.{ℕ, zero, suc, ◌≤◌, ◌<◌}
use native.Mathlib.Omega.{arith}
use Rattle.lists.specs.Select.{select}
use Rattle.lists.specs.Least.{least, one_to, least_passing}
use Rattle.lists.proofs.Tests.{cmp, test, never}
use Rattle.lists.proofs.Members.{select_mem, mem_select, each_more}
use Rattle.lists.proofs.Least.{least_mem, least_least}

one_to_mem : (n x : ℕ) → Memᴰ x (one_to n) → (1 ≤ x) × (x ≤ n)
unfolding one_to
one_to_mem zero x m = absurd (Memᴰ.not-nil m)
one_to_mem (suc n) x m =
    each_more (λ y. (1 ≤ y) × (y ≤ suc n)) (one_to n) (λ y k. let h = one_to_mem n y k in (h.0, omega (arith, h.1))) (omega arith, omega arith) x m

mem_one_to : (n x : ℕ) → 1 ≤ x → x ≤ n → Memᴰ x (one_to n)
unfolding one_to
mem_one_to zero x h k = absurd (omega arith)
mem_one_to (suc n) x h k =
    ⊎_elim (λ (c : x ≤ n). Memᴰ.append_left (suc n ∷ []) (mem_one_to n x h c))
    (λ (c : n < x). let e : x ≡ suc n = omega arith in Memᴰ.append_right (one_to n) (Memᴰ.head e)) (cmp x n)

-- x is the least of the numbers from 1 to n that passes, 0 if none does
pub record LeastPassing (p : ℕ → Bool) (n x : ℕ) : Type 0 where
  pub passes : 1 ≤ x → (x ≤ n) × (p x ≡ true)
  pub less : (v : ℕ) → 1 ≤ v → v < x → p v ≡ false
  pub none : x ≡ 0 → (v : ℕ) → 1 ≤ v → v ≤ n → p v ≡ false

module _ (p : ℕ → Bool) (n : ℕ) where
  -- where a number passes, so does the least, which is no greater
  at_most : (v : ℕ) → 1 ≤ v → v ≤ n → p v ≡ true → (1 ≤ least_passing p n) × (least_passing p n ≤ v)
  unfolding least_passing
  at_most v h k e =
      let m = mem_select p (mem_one_to n v h k) e in
      ((one_to_mem n _ (select_mem p _ (one_to n) (least_mem (select p (one_to n)) m)).0).0, least_least (select p (one_to n)) m)

  -- a number that is not 0 is one of those that pass
  is_passing : 1 ≤ least_passing p n → (least_passing p n ≤ n) × (p (least_passing p n) ≡ true)
  unfolding least_passing least
  is_passing h = go (select p (one_to n)) refl h
    where
      go : (l : List ℕ) → select p (one_to n) ≡ l → 1 ≤ least l → (least l ≤ n) × (p (least l) ≡ true)
      go [] e h = absurd (omega arith)
      go (y ∷ l) e h =
          let s = select_mem p (least (y ∷ l)) (one_to n) (subst (Memᴰ (least (y ∷ l))) (sym e) (least_mem (y ∷ l) (Memᴰ.head refl))) in
          ((one_to_mem n _ s.0).1, s.1)

  -- what is not the least does not pass
  fails : (v : ℕ) → 1 ≤ v → v ≤ n → ((1 ≤ least_passing p n) × (least_passing p n ≤ v) → ⊥) → p v ≡ false
  fails v h k f = ⊎_elim (λ e. absurd (f (at_most v h k e))) (λ e. e) (test (p v))

  pub least_passing_is : LeastPassing p n (least_passing p n)
  least_passing_is =
      record {
        passes = is_passing;
        less = λ v h k. fails v h (omega (arith, (is_passing (omega arith)).0)) (λ q. omega (arith, q.1));
        none = λ e v h k. fails v h k (λ q. omega (arith, q.0));
      }

-- only one number is the least
pub least_passing_only : {p : ℕ → Bool} {n x y : ℕ} → LeastPassing p n x → LeastPassing p n y → x ≡ y
least_passing_only {p} {n} {x} {y} F G = go (cmp 1 x) (cmp 1 y)
  where
    -- neither is less than the other
    not_less : {x y : ℕ} → LeastPassing p n x → LeastPassing p n y → 1 ≤ x → ¬ (x < y)
    not_less {x} {y} F G h k = never (F.passes h).1 (G.less x h k)

    not_none : {x y : ℕ} → LeastPassing p n x → LeastPassing p n y → 1 ≤ x → ¬ (y ≡ 0)
    not_none {x} {y} F G h k = let q = F.passes h in never q.1 (G.none k x h q.0)

    go : (1 ≤ x) ⊎ (x < 1) → (1 ≤ y) ⊎ (y < 1) → x ≡ y
    go (inl a) (inl b) = let s = not_less F G a in let t = not_less G F b in omega arith
    go (inl a) (inr b) = absurd (not_none F G a (omega arith))
    go (inr a) (inl b) = absurd (not_none G F b (omega arith))
    go (inr a) (inr b) = omega arith

-- A part of a board, seen by its counts: `at s` is how many of its jobs have last slot at least s. Slots are absolute numbers.
-- Two parts may agree from a slot on, and a job may leave a part.
use mathlib.Core.Path.{◌≡◌, refl, sym}
use mathlib.Core.Logic.{⊎_elim}
use Prim.Native.Nat.{ℕ, suc, ◌+◌, ◌-◌, ◌≤◌, ◌<◌, min}
use native.Mathlib.Omega.{arith}
pub use Rattle.lists.proofs.Tests.{cmp}

-- what is not above is below, and what is neither is equal
pub not_above : (a b : ℕ) → ¬ (b < a) → a ≤ b
not_above a b h = omega arith

pub above : (a b : ℕ) → ¬ (a ≤ b) → b < a
above a b h = omega arith

pub not_apart : (a b : ℕ) → ¬ (a < b) → ¬ (b < a) → a ≡ b
not_apart a b h k = omega arith

pub record Part : Type 0 where
  pub at : ℕ → ℕ
  pub anti : (s t : ℕ) → s ≤ t → at t ≤ at s
  pub end : ℕ
  pub none : at end ≡ 0

-- two parts together
abbrev pub ◌⊕◌ : Part → Part → Part
A ⊕ B = record {
  at = λ s. A.at s + B.at s;
  anti = λ s t h. omega (arith, A.anti s t h, B.anti s t h);
  end = A.end + B.end;
  none = omega (arith, A.none, B.none, A.anti A.end (A.end + B.end) (omega arith), B.anti B.end (A.end + B.end) (omega arith));
}

infixl 60 ◌⊕◌
-- A and B have the same counts from slot n on. So `Same (suc n) A B` says that in slot n nothing leaves A but what expires.
pub record Same (n : ℕ) (A B : Part) : Type 0 where
  pub is : (s : ℕ) → n ≤ s → A.at s ≡ B.at s

-- from n on, A is C and one job with last slot x
pub record OneMore (n x : ℕ) (A C : Part) : Type 0 where
  pub low : (s : ℕ) → n ≤ s → s ≤ x → A.at s ≡ suc (C.at s)
  pub high : (s : ℕ) → n ≤ s → x < s → A.at s ≡ C.at s

-- the same as a number
pub more_at : {n x : ℕ} {A C : Part} → OneMore n x A C → (s : ℕ) → n ≤ s → A.at s ≡ C.at s + min 1 (suc x - s)
more_at {n} {x} m s h = ⊎_elim (λ (k : s ≤ x). omega (arith, m.low s h k)) (λ (k : x < s). omega (arith, m.high s h k)) (cmp s x)

pub at_more : {n x : ℕ} {A C : Part} → ((s : ℕ) → n ≤ s → A.at s ≡ C.at s + min 1 (suc x - s)) → OneMore n x A C
at_more f = record { low = λ s h j. omega (arith, f s h); high = λ s h j. omega (arith, f s h) }

-- in slot n a job with last slot p, in date, leaves A; B is what is left, read from n + 1 on
pub record Out (n p : ℕ) (A B : Part) : Type 0 where
  pub date : n ≤ p
  pub present : A.at (suc p) < A.at p
  pub rest : OneMore (suc n) p A B

pub same_refl : (n : ℕ) (A : Part) → Same n A A
same_refl n A = record { is = λ s h. refl }

pub same_sym : {n : ℕ} {A B : Part} → Same n A B → Same n B A
same_sym e = record { is = λ s h. sym (e.is s h) }

pub same_trans : {n : ℕ} {A B C : Part} → Same n A B → Same n B C → Same n A C
same_trans e f = record { is = λ s h. omega (arith, e.is s h, f.is s h) }

pub same_later : {n : ℕ} {A B : Part} (m : ℕ) → n ≤ m → Same n A B → Same m A B
same_later m l e = record { is = λ s h. e.is s (omega arith) }

pub same_join : {n : ℕ} {A B C D : Part} → Same n A C → Same n B D → Same n (A ⊕ B) (C ⊕ D)
same_join e f = record { is = λ s h. omega (arith, e.is s h, f.is s h) }

-- where the count has fallen, the slot is later
pub fallen : (A : Part) (n s : ℕ) → A.at s < A.at n → n < s
fallen A n s h = above s n (λ k. omega (arith, A.anti s n k))

-- a job in date up to l is a fall of the count
pub fall_in : {n p : ℕ} {A B : Part} (l : ℕ) → Out n p A B → p ≤ l → A.at (suc l) < A.at n
fall_in {n} {p} {A} l a h = omega (arith, a.present, a.date, A.anti n p a.date, A.anti (suc p) (suc l) (omega arith))

-- what is left is no more
pub out_less : {n p : ℕ} {A B : Part} → Out n p A B → (s : ℕ) → suc n ≤ s → B.at s ≤ A.at s
out_less o s h = omega (arith, more_at o.rest s h)

-- and at most one less
pub out_one : {n p : ℕ} {A B : Part} → Out n p A B → (s : ℕ) → suc n ≤ s → A.at s ≤ suc (B.at s)
out_one o s h = omega (arith, more_at o.rest s h)

-- what is left in the next slot, with the job that left, is no more than what was there
pub out_next : {n p : ℕ} {A B : Part} → Out n p A B → B.at (suc n) < A.at n
out_next {n} {p} {A} o =
    ⊎_elim
    (λ (i : suc n ≤ p). omega (arith, o.rest.low (suc n) (omega arith) i, A.anti n (suc n) (omega arith)))
    (λ (i : p < suc n). omega (arith, o.rest.high (suc n) (omega arith) i, o.present, o.date, A.anti n p o.date, A.anti (suc p) (suc n) i))
    (cmp (suc n) p)

-- only the counts from n on matter
pub out_same : {n p : ℕ} {A B C : Part} → Same n C A → Out n p A B → Out n p C B
out_same {n} {p} e o =
    record {
      date = o.date;
      present = omega (arith, o.present, e.is p o.date, e.is (suc p) (omega (arith, o.date)));
      rest = at_more (λ s h. omega (arith, e.is s (omega arith), more_at o.rest s h));
    }

-- what is left tells which job left
pub out_unique : {n p q : ℕ} {A B : Part} → Out n p A B → Out n q A B → p ≡ q
out_unique {n} {p} {q} {A} {B} o x = not_apart p q (no o x) (no x o)
  where
    no : {p q : ℕ} → Out n p A B → Out n q A B → p < q → ⊥
    no {p} o x h = omega (arith, o.date, o.rest.high (suc p) (omega (arith, o.date)) (omega arith), x.rest.low (suc p) (omega (arith, o.date)) h)

-- Excess without numbers below zero: the order of two differences is the order of two sums.
use mathlib.Core.Path.{◌≡◌, refl, sym, ap, ◌∙◌}
use mathlib.Core.Bool.{true}
use mathlib.Core.Logic.{◌⊎◌, inl, inr}
use mathlib.Core.List.Memᴰ
use mathlib.Core.List.{List, map, Memᴰ}
use Prim.Native.Nat.{ℕ, zero, suc, ◌+◌, ◌-◌, ◌≤◌, ◌<◌}
use native.Mathlib.Omega.{arith}
use lib.Dec.{leb}
use lib.IntN.{pos, negsuc, ◌-ℤ◌}
use lib.Signed.{le_z}
use borrow.Author.Tests.{leb-true, le-leb, lt-ltb, le-ltb, lt-leb}
use Rattle.lists.specs.Select.{how_many}
use Rattle.lists.proofs.Tests.{same_test, cmp}
use Rattle.lists.proofs.Members.{every_mem, mem_every}
use Rattle.rule.specs.Job.{Job, laxity}
use Rattle.rule.specs.Tight.{laxities, excess, smallest}

same_order : (a b c d : ℕ) → (a ≤ b → c ≤ d) → (c ≤ d → a ≤ b) → leb a b ≡ leb c d
same_order a b c d f g = same_test (leb a b) (leb c d) (λ h. le-leb c d (f (leb-true a b h))) (λ h. le-leb a b (g (leb-true c d h)))

-- a difference, by which number is the smaller
pub difference_up : (a b : ℕ) → b ≤ a → pos a -ℤ pos b ≡ pos (a - b)
difference_up a zero h = ap pos (omega arith)
difference_up a (suc b) h = rw (le-ltb a (suc b)) refl

pub difference_down : (a b : ℕ) → a < b → pos a -ℤ pos b ≡ negsuc (b - (a + 1))
difference_down a zero h = absurd (omega arith)
difference_down a (suc b) h = rw (lt-ltb a (suc b)) (ap negsuc (omega arith))

pub difference_order : (a b c d : ℕ) → le_z (pos a -ℤ pos b) (pos c -ℤ pos d) ≡ leb (a + d) (c + b)
difference_order a b c d = go (cmp b a) (cmp d c)
  where
    go : (b ≤ a) ⊎ (a < b) → (d ≤ c) ⊎ (c < d) → le_z (pos a -ℤ pos b) (pos c -ℤ pos d) ≡ leb (a + d) (c + b)
    go (inl h) (inl k) = rw (difference_up a b, difference_up c d) (same_order (a - b) (c - d) (a + d) (c + b) (λ e. omega arith) (λ e. omega arith))
    go (inl h) (inr k) = rw (difference_up a b, difference_down c d) (sym (lt-leb (a + d) (c + b) (omega arith)))
    go (inr h) (inl k) = rw (difference_down a b, difference_up c d) (sym (le-leb (a + d) (c + b) (omega arith)))
    go (inr h) (inr k) =
        rw (difference_down a b, difference_down c d) (same_order (d - (c + 1)) (b - (a + 1)) (a + d) (c + b) (λ e. omega arith) (λ e. omega arith))

-- how many jobs have laxity l or less
abbrev pub up_to : ℕ → List Job → ℕ → ℕ
up_to now A l = how_many (λ r. leb (laxity now r) l) A

pub excess_order : (now : ℕ) (A : List Job) (l m : ℕ) → le_z (excess now A l) (excess now A m) ≡ leb (l + up_to now A m) (m + up_to now A l)
unfolding excess
excess_order now A l m = difference_order l (up_to now A l) m (up_to now A m)

-- l's excess is smallest
pub smallest_le : (now : ℕ) (A : List Job) (l : ℕ) → smallest now A l ≡ true → (r : Job) → Memᴰ r A
    → l + up_to now A (laxity now r) ≤ laxity now r + up_to now A l
unfolding smallest laxities
smallest_le now A l h r m =
    leb-true (l + up_to now A (laxity now r)) (laxity now r + up_to now A l)
    (sym (excess_order now A l (laxity now r)) ∙ every_mem (λ k. le_z (excess now A l) (excess now A k)) h (Memᴰ.map (laxity now) m))

pub le_smallest : (now : ℕ) (A : List Job) (l : ℕ)
    → ((r : Job) → Memᴰ r A → l + up_to now A (laxity now r) ≤ laxity now r + up_to now A l) → smallest now A l ≡ true
unfolding smallest laxities
le_smallest now A l f =
    mem_every (λ k. le_z (excess now A l) (excess now A k)) (map (laxity now) A)
    (λ k m.
    let r = Memᴰ.of_map (laxity now) A m in
    let h : l + up_to now A k ≤ k + up_to now A l = rw r.2 at (f r.0 r.1) in
    excess_order now A l k ∙ le-leb (l + up_to now A k) (k + up_to now A l) h)

-- Sets of jobs as flags: a flag set.
use mathlib.Core.Path.{◌≡◌, refl}
use mathlib.Core.Bool.{Bool, true, false}
use mathlib.Core.List.{List, [], ◌∷◌}
use Prim.Native.Nat.{ℕ, zero, suc, ◌<◌}
use lib.ListN.{length, set, replicate, get_or}
use lib.Seq.{get_or-set_same, get_or-set_other}
use Rattle.lists.proofs.Tests.{never}
use Rattle.matching.specs.Choice.{is_in}

-- a list of the same element has it everywhere, past its end too
pub all_same : {A : Type 0} (a : A) (n i : ℕ) → get_or (replicate n a) i a ≡ a
all_same a zero i = refl
all_same a (suc n) zero = refl
all_same a (suc n) (suc i) = all_same a n i

pub none_in : (n i : ℕ) → is_in (replicate n false) i ≡ false
unfolding is_in
none_in n i = all_same false n i

module _ (c : List Bool) (k : ℕ) (v : Bool) where
  pub set_in : k < length c → is_in (set c k v) k ≡ v
  unfolding is_in
  set_in h = get_or-set_same c k v false h

  pub set_out_of : (i : ℕ) → (i ≡ k → ⊥) → is_in (set c k v) i ≡ is_in c i
  unfolding is_in
  set_out_of i h = get_or-set_other c k i v false h

-- a flag taken away
pub taken_in : (c : List Bool) (k i : ℕ) → is_in (set c k false) i ≡ true → is_in c i ≡ true
unfolding is_in
taken_in [] k i e = e
taken_in (x ∷ c) zero zero e = never e refl
taken_in (x ∷ c) zero (suc i) e = e
taken_in (x ∷ c) (suc k) zero e = e
taken_in (x ∷ c) (suc k) (suc i) e = taken_in c k i e

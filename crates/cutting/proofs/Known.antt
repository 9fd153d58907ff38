-- What holding a line's bytes tells: there is room for so many.
use mathlib.Core.List.{List}
use mathlib.Core.Path.{◌≡◌, sym, ap, ◌∙◌}
use mathlib.Core.Logic.{◌⊎◌, inl, inr}
use Prim.Native.Nat.{ℕ, ◌≤◌, ◌<◌, min}
use native.Mathlib.Omega.{arith}
use lib.ListN.{length, take}
use lib.Seq.{take_all}
use mir.Val.{Val}
use denote.Laws.{Is}
use denote.Struct.Declared.{row}
use Rattle.lists.proofs.Tests.{cmp}
use Rattle.lines.specs.Bytes.{Bytes}
use Rattle.lines.specs.Reading.{longest_line}
use Rattle.lines.specs.Machine.{partial_room}
use Rattle.cutting.specs.declared.Partial.{Partial}
use Rattle.cutting.specs.contracts.Partial.{the_type}

pub partial_length : (h : Partial) (vs : List Val) → Is (row the_type) h vs → length h.bytes ≡ partial_room
unfolding partial_room longest_line
partial_length h vs g = g.1.1.0.1.0.1

-- no more are taken than there are
pub take_lesser : (n : ℕ) (l : Bytes) (m : ℕ) → length l ≡ m → take (min n m) l ≡ take n l
take_lesser n l m e = go (cmp n m)
  where
    go : (n ≤ m) ⊎ (m < n) → take (min n m) l ≡ take n l
    go (inl h) = let same : min n m ≡ n = omega arith in ap (λ (k : ℕ). take k l) same
    go (inr h) = take_all (min n m) l (omega (arith, e)) ∙ sym (take_all n l (omega (arith, e)))

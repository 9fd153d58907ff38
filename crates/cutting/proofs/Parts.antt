-- Laws of a part of a chunk: no byte, a byte at its start or its end, two parts joined, the whole.
use mathlib.Core.List.{[], ◌∷◌, ◌++◌}
use mathlib.Core.Path.{◌≡◌, sym, ap, ◌∙◌}
use Prim.Native.Nat.{ℕ, suc, ◌+◌, ◌-◌, ◌≤◌, ◌<◌}
use native.Mathlib.Omega.{arith}
use lib.ListN.{length, take, drop, get_or}
use lib.Seq.{slice_empty, slice-cons, length-take-le, take-length, take-add, drop-append-le, drop_at}
use Rattle.lines.specs.Bytes.{Bytes}
use Rattle.cutting.specs.Cut.{part}

module _ (s : Bytes) where
  pub part_none : (k : ℕ) → part s k k ≡ []
  unfolding part
  part_none k = slice_empty k s

  pub part_first : (i to : ℕ) → i < to → to ≤ length s → part s i to ≡ get_or s i 0 ∷ part s (suc i) to
  unfolding part
  part_first i to h k = slice-cons i to s 0 h k

  pub part_join : (from mid to : ℕ) → from ≤ mid → mid ≤ to → to ≤ length s → part s from mid ++ part s mid to ≡ part s from to
  unfolding part
  part_join from mid to h k l =
      let tail = take (to - mid) (drop mid s) in
      let n : length (take mid s) ≡ mid = length-take-le mid s (omega arith) in
      let m : to ≡ mid + (to - mid) = omega arith in
      let e : take to s ≡ take mid s ++ tail = ap (λ (i : ℕ). take i s) m ∙ take-add mid (to - mid) s in
      rw (e, drop-append-le from (take mid s) tail (omega arith), drop_at (take mid s) tail mid n)

  pub part_last : (from i : ℕ) → from ≤ i → i < length s → part s from (suc i) ≡ part s from i ++ (get_or s i 0 ∷ [])
  part_last from i h k =
      sym (part_join from i (suc i) h (omega arith) (omega arith))
      ∙ ap (λ (l : Bytes). part s from i ++ l) (part_first i (suc i) (omega arith) (omega arith) ∙ ap (λ (l : Bytes). get_or s i 0 ∷ l) (part_none (suc i)))

  pub part_whole : part s 0 (length s) ≡ s
  unfolding part
  part_whole = take-length s

-- Laws of a line so far: one more while there is room, none after that.
use mathlib.Core.Path.{◌≡◌, sym, ◌∙◌}
use Prim.Native.Nat.{ℕ, ◌+◌, ◌≤◌, ◌<◌}
use native.Mathlib.Numerals.{add-one}
use native.Mathlib.Omega.{arith}
use lib.ListN.{length, take, drop, set, get_or, length-take}
use lib.Seq.{drop-cons, take-suc-set}
use Rattle.lines.specs.Bytes.{Bytes}
use Rattle.lines.specs.Machine.{extend, partial_room}
use Rattle.lines.proofs.LongLines.{extend_room, extend_full}
use Rattle.cutting.specs.Cut.{extend_all}

module _ (bytes : Bytes) (n b : ℕ) (full : length bytes ≡ partial_room) where
  pub byte_added : n < partial_room → take (n + 1) (set bytes n b) ≡ extend b (take n bytes)
  unfolding partial_room
  byte_added k =
      rw add-one (take-suc-set bytes n b (omega arith)) ∙ sym (extend_room b (take n bytes) (omega (arith, length-take n bytes)))

  pub none_added : partial_room ≤ n → take n bytes ≡ extend b (take n bytes)
  unfolding partial_room
  none_added k = sym (extend_full b (take n bytes) (omega (arith, length-take n bytes)))

-- one byte more of those that are to be added
pub extend_next : (s : Bytes) (i : ℕ) (l k : Bytes) → i < length s → k ≡ extend (get_or s i 0) l → extend_all k (drop (i + 1) s) ≡ extend_all l (drop i s)
unfolding extend_all
extend_next s i l k h e = rw (e, add-one, drop-cons s i 0 h)

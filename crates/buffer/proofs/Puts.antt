-- Laws of bytes put into a buffer: what stands before and behind them, and one byte more.
use mathlib.Core.List.{[], ◌∷◌, ◌++◌, append_assoc}
use mathlib.Core.Path.{◌≡◌, ap, sym, ◌∙◌}
use Prim.Native.Nat.{ℕ, ◌+◌, ◌≤◌, ◌<◌}
use native.Mathlib.Nat.{add-zero}
use native.Mathlib.Numerals.{add-one}
use native.Mathlib.Omega.{arith}
use lib.ListN.{length, take, drop, set, length-append, length-set, length-drop, take-append-drop}
use lib.Seq.{take_at, drop_at, drop-drop, take-append-le, take-take, set_split, length-take-le}
use borrow.Rule.Slice.PartMut.{put_mid}
use Rattle.lines.specs.Bytes.{Bytes}
use Rattle.buffer.specs.Puts.{put}

module _ (out : Bytes) (at : ℕ) (bs : Bytes) where
  parted : put out at bs ≡ (take at out ++ bs) ++ drop (at + length bs) out
  unfolding put
  parted = sym (append_assoc (take at out) bs (drop (at + length bs) out))

  length_head : at ≤ length out → length (take at out ++ bs) ≡ at + length bs
  length_head h = length-append (take at out) bs ∙ ap (λ (k : ℕ). k + length bs) (length-take-le at out h)

  -- the buffer up to the end of the bytes
  pub put_start : at ≤ length out → take (at + length bs) (put out at bs) ≡ take at out ++ bs
  put_start h = rw parted (take_at (take at out ++ bs) (drop (at + length bs) out) (at + length bs) (length_head h))

  -- and behind them
  pub put_rest : at ≤ length out → drop (at + length bs) (put out at bs) ≡ drop (at + length bs) out
  put_rest h = rw parted (drop_at (take at out ++ bs) (drop (at + length bs) out) (at + length bs) (length_head h))

-- bytes put behind others
pub put_append : (out : Bytes) (at : ℕ) (cs bs : Bytes) → at ≤ length out → put (put out at cs) (at + length cs) bs ≡ put out at (cs ++ bs)
put_append out at cs bs h =
    let n = at + length cs in
    let e : n + length bs ≡ at + length (cs ++ bs) = omega (arith, length-append cs bs) in
    let rest = ap (drop (length bs)) (put_rest out at cs h) in
    parted (put out at cs) n bs
    ∙ rw (put_start out at cs h, ← drop-drop (length bs) n (put out at cs), rest, drop-drop, e, parted out at (cs ++ bs)) (simp append_assoc)

-- and before them
pub put_before : (out : Bytes) (at : ℕ) (cs bs : Bytes) → at + length cs ≤ length out
    → put (put out (at + length cs) bs) at cs ≡ put out at (cs ++ bs)
unfolding put
put_before out at cs bs h =
    let n = at + length cs in
    let rest = bs ++ drop (n + length bs) out in
    let k : length (take n out) ≡ n = length-take-le n out h in
    let e : n + length bs ≡ at + length (cs ++ bs) = omega (arith, length-append cs bs) in
    rw (take-append-le at (take n out) rest (omega arith), take-take at n out (omega arith), drop_at (take n out) rest n k, e) (simp append_assoc)

pub put_one : (out : Bytes) (at b : ℕ) → at < length out → set out at b ≡ put out at (b ∷ [])
unfolding put
put_one out at b h = rw add-one (set_split out at b h)

-- the last byte may be put first
pub put_last : (out : Bytes) (at : ℕ) (cs : Bytes) (b : ℕ) → at + length cs < length out
    → put (set out (at + length cs) b) at cs ≡ put out at (cs ++ (b ∷ []))
put_last out at cs b h = rw (put_one out (at + length cs) b h) (put_before out at cs (b ∷ []) (omega arith))

-- of two also
pub put_two : (out : Bytes) (at a b : ℕ) → at + 1 < length out → set (set out (at + 1) b) at a ≡ put out at (a ∷ b ∷ [])
put_two out at a b h = put_one (set out (at + 1) b) at a (rw length-set (omega arith)) ∙ put_last out at (a ∷ []) b h

-- the first byte may be put before the others
pub put_first : (out : Bytes) (at b : ℕ) (bs : Bytes) → at < length out → put (set out at b) (at + 1) bs ≡ put out at (b ∷ bs)
put_first out at b bs h = rw (put_one out at b h) (put_append out at (b ∷ []) bs (omega arith))

-- no bytes change nothing
pub put_none : (out : Bytes) (at : ℕ) → put out at [] ≡ out
unfolding put
put_none out at = rw add-zero (take-append-drop at out)

-- as `copy_from_slice` puts them into a part of the buffer that is as long
pub put_copied : (out : Bytes) (at k : ℕ) (cs bs : Bytes) → cs ≡ bs → k ≡ length bs → put_mid at k out cs ≡ put out at bs
unfolding put
put_copied out at k cs bs e h = rw (e, h, drop-drop)

-- the buffer is as long as before
pub put_length : (out : Bytes) (at : ℕ) (bs : Bytes) → at + length bs ≤ length out → length (put out at bs) ≡ length out
unfolding put
put_length out at bs h =
    let rest = drop (at + length bs) out in
    omega (
      arith,
      length-append (take at out) (bs ++ rest),
      length-append bs rest,
      length-take-le at out (omega arith),
      length-drop (at + length bs) out,
    )

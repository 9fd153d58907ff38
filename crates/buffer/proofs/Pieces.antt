-- Output in pieces: bytes that are left to be put stand behind those that were.
use mathlib.Core.Path.{◌≡◌, refl, sym, subst, ◌∙◌}
use mathlib.Core.List.{[], ◌∷◌, ◌++◌}
use Prim.Native.Nat.{ℕ, ◌+◌, ◌≤◌, ◌<◌}
use native.Mathlib.Omega.{arith}
use lib.ListN.{length, set, length-append}
use Rattle.lines.specs.Bytes.{Bytes}
use Rattle.buffer.specs.Puts.{put}
use Rattle.buffer.proofs.Puts.{put_none, put_append, put_one}
use Rattle.buffer.specs.Puts.{PutWithin}

-- of the bytes `all`, to be put at `at` in `out`, the bytes `rest` are left, to be put at `here` in `now`
pub record Left (all out : Bytes) (at : ℕ) (rest now : Bytes) (here : ℕ) : Type 0 where
  pub end : here + length rest ≡ at + length all
  pub bytes : put now here rest ≡ put out at all

pub all_left : (all out : Bytes) (at : ℕ) → Left all out at all out at
all_left all out at = record { end = refl; bytes = refl }

module _ {all out : Bytes} {at : ℕ} where
  -- one piece more is put
  pub fewer_left : (bs rest now : Bytes) (here : ℕ) (now' : Bytes) (here' : ℕ) → Left all out at (bs ++ rest) now here → here ≤ length now
      → here' ≡ here + length bs → now' ≡ put now here bs → Left all out at rest now' here'
  fewer_left bs rest now here now' here' l h e p =
      record { end = omega (arith, l.end, length-append bs rest); bytes = rw (p, e) (put_append now here bs rest h ∙ l.bytes) }

  -- one byte more
  pub byte_fewer : (b : ℕ) (rest now : Bytes) (here : ℕ) → Left all out at (b ∷ rest) now here → here < length now
      → Left all out at rest (set now here b) (here + 1)
  byte_fewer b rest now here l h = fewer_left (b ∷ []) rest now here _ _ l (omega arith) refl (put_one now here b h)

  pub none_left : (now : Bytes) (here : ℕ) → Left all out at [] now here → (here ≡ at + length all) × (now ≡ put out at all)
  none_left now here l = (omega (arith, l.end), sym (put_none now here) ∙ l.bytes)

-- bytes put, and others behind them
pub put_behind : {m n : ℕ} {a b out mid out' : Bytes} {at here end : ℕ} → at ≤ length out → PutWithin m a out at here mid → PutWithin n b mid here end out'
    → PutWithin (m + n) (a ++ b) out at end out'
put_behind {m} {n} {a} {b} {out} {mid} {out'} {at} {here} {end} h p q =
    record {
      end = omega (arith, p.end, q.end, length-append a b);
      within = omega (arith, p.within, q.within);
      bytes = q.bytes ∙ rw (p.bytes, p.end) (put_append out at a b h);
    }

-- no more than a greater number
pub put_fewer : {m n : ℕ} {bs out : Bytes} {at r : ℕ} {out' : Bytes} → PutWithin m bs out at r out' → m ≤ n → PutWithin n bs out at r out'
put_fewer p h = record { end = p.end; within = omega (arith, p.within); bytes = p.bytes }

-- no bytes
pub put_nil : (most : ℕ) (out : Bytes) (at : ℕ) → PutWithin most [] out at at out
put_nil most out at = record { end = omega arith; within = omega arith; bytes = sym (put_none out at) }

-- by another name
pub put_as : {m : ℕ} {a b out : Bytes} {at r : ℕ} {out' : Bytes} → a ≡ b → PutWithin m b out at r out' → PutWithin m a out at r out'
put_as {m} {a} {b} {out} {at} {r} {out'} e p = subst (λ (bs : Bytes). PutWithin m bs out at r out') (sym e) p

-- Bytes put where they fit.
use mathlib.Core.Path.{◌≡◌, refl, sym, subst, ap, ◌∙◌}
use mathlib.Core.Bool.{Bool, true, false, cond}
use mathlib.Core.List.{[]}
use Prim.Native.Nat.{ℕ, ◌+◌, ◌≤◌}
use native.Mathlib.Omega.{arith}
use lib.Dec.{leb}
use lib.ListN.{length}
use borrow.Author.Tests.{le-leb}
use Rattle.lines.specs.Bytes.{Bytes}
use Rattle.buffer.specs.Puts.{put}
use Rattle.buffer.specs.Puts.{PutWithin, PutIf}
use Rattle.buffer.proofs.Pieces.{put_as, put_nil}

module _ {most : ℕ} {bs out : Bytes} {at r : ℕ} {out' : Bytes} where
  -- they fit and are put
  pub put_fits : (f : Bool) → f ≡ true → PutWithin most bs out at r out' → PutIf f most bs out at r out'
  put_fits f e p =
      record {
        end = p.end ∙ sym (ap (λ b. cond b (at + length bs) at) e);
        within = p.within;
        bytes = p.bytes ∙ sym (ap (λ b. cond b (put out at bs) out) e);
      }

  pub fits_put : (f : Bool) → f ≡ true → PutIf f most bs out at r out' → PutWithin most bs out at r out'
  fits_put f e p =
      record {
        end = p.end ∙ ap (λ b. cond b (at + length bs) at) e;
        within = p.within;
        bytes = p.bytes ∙ ap (λ b. cond b (put out at bs) out) e;
      }

  -- there is room for them
  pub room_put : at + most ≤ length out → PutIf (leb (at + most) (length out)) most bs out at r out' → PutWithin most bs out at r out'
  room_put h p = fits_put (leb (at + most) (length out)) (le-leb (at + most) (length out) h) p

-- they do not fit, and nothing is put
pub put_nothing : (most : ℕ) (bs out : Bytes) (at : ℕ) (f : Bool) → f ≡ false → PutIf f most bs out at at out
put_nothing most bs out at f e =
    record {
      end = sym (ap (λ b. cond b (at + length bs) at) e);
      within = omega arith;
      bytes = sym (ap (λ b. cond b (put out at bs) out) e);
    }

-- no bytes, whether they fit or not
pub put_nil_if : (most : ℕ) (bs out : Bytes) (at : ℕ) (f : Bool) → bs ≡ [] → PutIf f most bs out at at out
put_nil_if most bs out at true e = put_fits true refl (put_as e (put_nil most out at))
put_nil_if most bs out at false e = put_nothing most bs out at false refl

-- by another name
pub put_as_if : {f : Bool} {m : ℕ} {a b out : Bytes} {at r : ℕ} {out' : Bytes} → a ≡ b → PutIf f m b out at r out' → PutIf f m a out at r out'
put_as_if {f} {m} {a} {b} {out} {at} {r} {out'} e p = subst (λ (bs : Bytes). PutIf f m bs out at r out') (sym e) p

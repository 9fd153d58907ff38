-- Laws of a chunk taken in: no byte, two parts joined; and how far it goes.
use mathlib.Core.List.{[], ◌++◌}
use mathlib.Core.Logic.{◌⊎◌, inl, inr}
use mathlib.Core.Path.{◌≡◌, sym, ap, ◌∙◌}
use Prim.Native.Nat.{ℕ, ◌+◌, ◌≤◌, ◌<◌}
use native.Mathlib.Omega.{arith}
use lib.ListN.{length}
use Rattle.lists.proofs.Tests.{cmp}
use Rattle.lines.specs.Bytes.{Bytes}
use Rattle.lines.specs.Machine.{Machine, after_bytes, printed_along}
use Rattle.lines.proofs.Answers.{after_append, printed_nothing, printed_append}
use Rattle.buffer.specs.Puts.{put}
use Rattle.buffer.proofs.Puts.{put_none, put_length}
use Rattle.cutting.specs.Cut.{part}
use Rattle.cutting.proofs.Parts.{part_none, part_join}
use Rattle.answers.specs.Printed.{answer_room}
use Rattle.buffer.proofs.Pieces.{Left, all_left, fewer_left}
use Rattle.running.specs.declared.state.State.{State}
use Rattle.running.specs.Inner.Machines.{machine_of, After, TakenIn, GoesOn}

pub taken_none : (k : State) (s : Bytes) (from : ℕ) (out : Bytes) (at : ℕ) → from ≤ length s → at ≤ length out
    → TakenIn k s from out at (record { state = k; used = from; at = at }) out
unfolding after_bytes answer_room
taken_none k s from out at l f =
    let e = part_none s from in
    let p = printed_nothing (machine_of k) in
    record {
      forward = omega arith;
      inside = l;
      number = omega arith;
      machine = rw e;
      end = rw (e, p) (omega arith);
      few = omega arith;
      fits = f;
      bytes = rw (e, p) (sym (put_none out at));
    }

module _ {k : State} {s : Bytes} {from : ℕ} {out : Bytes} {at : ℕ} {f : After} {mid : Bytes} (a : TakenIn k s from out at f mid) where
  abbrev first : Bytes
  first = printed_along (machine_of k) (part s from f.used)

  pub kept_length : length mid ≡ length out
  kept_length = ap length a.bytes ∙ put_length out at first (omega (arith, a.end, a.fits))

  module _ {g : After} {last : Bytes} (b : TakenIn f.state s f.used mid f.at g last) where
    abbrev second : Bytes
    second = printed_along (machine_of f.state) (part s f.used g.used)

    parts : part s from f.used ++ part s f.used g.used ≡ part s from g.used
    parts = part_join s from f.used g.used a.forward b.forward b.inside

    joined : printed_along (machine_of k) (part s from g.used) ≡ first ++ second
    joined =
        let u = part s from f.used in
        let v = part s f.used g.used in
        ap (printed_along (machine_of k)) (sym parts)
        ∙ printed_append (machine_of k) u v
        ∙ ap (λ (m : Machine). first ++ printed_along m v) (sym a.machine)

    left : Left (first ++ second) out at second mid f.at
    left = fewer_left first second out at mid f.at (all_left (first ++ second) out at) (omega (arith, a.end, a.fits)) a.end a.bytes

    pub taken_join : TakenIn k s from out at g last
    unfolding answer_room
    taken_join =
        let u = part s from f.used in
        let v = part s f.used g.used in
        record {
          forward = omega (arith, a.forward, b.forward);
          inside = b.inside;
          number = omega (arith, a.number, b.number);
          machine = b.machine
              ∙ ap (λ (m : Machine). after_bytes m v) a.machine
              ∙ sym (after_append (machine_of k) u v)
              ∙ ap (after_bytes (machine_of k)) parts;
          end = b.end ∙ left.end ∙ ap (λ (x : Bytes). at + length x) (sym joined);
          few = omega (arith, a.few, b.few);
          fits = omega (arith, b.fits, kept_length);
          bytes = b.bytes ∙ left.bytes ∙ ap (put out at) (sym joined);
        }

  -- where no byte is used nothing is printed
  stays : f.used ≡ from → f.at ≡ at
  stays e =
      let p : part s from f.used ≡ [] = ap (part s from) e ∙ part_none s from in
      omega (arith, a.end, ap length (ap (printed_along (machine_of k)) p ∙ printed_nothing (machine_of k)))

  pub stops_full : length out < f.at + answer_room → GoesOn s from out at f
  stops_full h = record { further = λ r l. go r (cmp f.used from); to_the_end = λ r. absurd (omega arith) }
    where
      go : at + answer_room ≤ length out → (f.used ≤ from) ⊎ (from < f.used) → from < f.used
      go r (inl n) = absurd (omega (arith, stays (omega (arith, a.forward))))
      go r (inr n) = n

  pub stops_at_end : length s ≤ f.used → GoesOn s from out at f
  stops_at_end h = record { further = λ r l. omega arith; to_the_end = λ r. omega (arith, a.inside) }

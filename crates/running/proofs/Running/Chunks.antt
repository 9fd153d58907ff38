-- A chunk taken in part by part, and what each part prints written.
use mathlib.Core.List.{◌++◌}
use mathlib.Core.Path.{◌≡◌, refl, sym, ap, ◌∙◌}
use Prim.Native.Nat.{ℕ, ◌+◌, ◌*◌, ◌≤◌}
use native.Mathlib.Omega.{arith}
use lib.ListN.{length, length-append}
use Rattle.lines.specs.Bytes.{Bytes}
use Rattle.lines.specs.Machine.{Machine, after_bytes, printed_along}
use Rattle.lines.proofs.Answers.{after_append, printed_nothing, printed_append}
use Rattle.cutting.specs.Cut.{part}
use Rattle.cutting.proofs.Parts.{part_none, part_join, part_whole}
use Rattle.answers.specs.Printed.{answer_room}
use Rattle.std.specs.Prelude.{Ok, Err}
use Rattle.running.specs.declared.state.State.{State}
use Rattle.running.specs.declared.run.Progress.{Progress}
use Rattle.status.specs.declared.Stop.{Stop}
use Rattle.status.specs.declared.Stop.TheVariants.{ReadFailed, WriteFailed, TooLong}
use Rattle.running.specs.Inner.Machines.{machine_of, After, TakenIn}
use Rattle.running.specs.Runs.{WrittenSo, ChunkTaken}

-- so many bytes of the chunk are taken in, and all that they print is written
pub record Along (before : Progress) (chunk : Bytes) (now : Progress) (used : ℕ) : Type 0 where
  pub inside : used ≤ length chunk
  pub number : now.state.printer.number ≤ before.state.printer.number + used
  pub read : now.read ≡ before.read + length chunk
  pub machine : machine_of now.state ≡ after_bytes (machine_of before.state) (part chunk 0 used)
  pub all : now.written ≡ before.written + length (printed_along (machine_of before.state) (part chunk 0 used))
  pub few : now.written ≤ before.written + answer_room * used

pub along_none : (before : Progress) (chunk : Bytes) → Along before chunk (record { state = before.state; read = before.read + length chunk; written = before.written }) 0
unfolding after_bytes answer_room
along_none before chunk =
    let e = part_none chunk 0 in
    let none : length (printed_along (machine_of before.state) (part chunk 0 0)) ≡ 0 = rw (e, printed_nothing (machine_of before.state)) in
    record {
      inside = omega arith;
      number = omega arith;
      read = refl;
      machine = rw e;
      all = omega (arith, none);
      few = omega arith;
    }

module _ {before : Progress} {chunk : Bytes} {now : Progress} {used : ℕ} (a : Along before chunk now used) where
  abbrev m : Machine
  m = machine_of before.state

  -- all bytes are taken in
  pub along_whole : length chunk ≤ used → ChunkTaken before chunk now (Ok tt)
  unfolding answer_room WrittenSo
  along_whole h =
      let e : part chunk 0 used ≡ chunk = ap (part chunk 0) (omega (arith, a.inside)) ∙ part_whole chunk in
      record {
        number = omega (arith, a.number, a.inside);
        read = a.read;
        few = omega (arith, a.few, a.inside);
        machine = a.machine ∙ ap (after_bytes m) e;
        written = a.all ∙ ap (λ (x : Bytes). before.written + length (printed_along m x)) e;
      }

  module _ {f : After} {out out' : Bytes} (t : TakenIn now.state chunk used out 0 f out') where
    abbrev one : Bytes
    one = part chunk 0 used

    abbrev more : Bytes
    more = part chunk used f.used

    joined : one ++ more ≡ part chunk 0 f.used
    joined = part_join chunk 0 used f.used (omega arith) t.forward t.inside

    module _ {next : Progress} (state_is : next.state ≡ f.state) (read_is : next.read ≡ now.read) where
      -- a part more
      pub along_more : next.written ≡ now.written + f.at → Along before chunk next f.used
      unfolding answer_room
      along_more h =
          record {
            inside = t.inside;
            number = omega (arith, t.number, a.number, ap (λ (k : State). k.printer.number) state_is);
            read = read_is ∙ a.read;
            machine = ap machine_of state_is
                ∙ t.machine
                ∙ ap (λ (n : Machine). after_bytes n more) a.machine
                ∙ sym (after_append m one more)
                ∙ ap (after_bytes m) joined;
            all = omega (
              arith,
              h,
              a.all,
              t.end,
              ap (λ (n : Machine). length (printed_along n more)) a.machine,
              length-append (printed_along m one) (printed_along (after_bytes m one) more),
              ap length (printed_append m one more),
              ap (λ (x : Bytes). length (printed_along m x)) joined,
            );
            few = omega (arith, h, a.few, t.few);
          }

    module _ {next : Progress} (state_is : next.state ≡ f.state) (read_is : next.read ≡ now.read) where
      -- of what it prints, some is not written
      pub along_part : (stop : Stop) → WrittenSo (Err stop) now.written f.at next.written → ChunkTaken before chunk next (Err stop)
      unfolding answer_room WrittenSo
      along_part (ReadFailed _) h = absurd h
      along_part TooLong h = absurd h
      along_part (WriteFailed _) h =
          let n = along_more {next = record { state = f.state; read = now.read; written = now.written + f.at }} refl refl refl in
          let rest = part chunk f.used (length chunk) in
          let u = part chunk 0 f.used in
          let e : u ++ rest ≡ chunk = part_join chunk 0 f.used (length chunk) (omega arith) t.inside (omega arith) ∙ part_whole chunk in
          record {
            number = omega (arith, n.number, n.inside, ap (λ (k : State). k.printer.number) state_is);
            read = read_is ∙ n.read;
            few = omega (arith, n.few, n.inside, h);
            machine = tt;
            written = omega (
              arith,
              h,
              n.all,
              length-append (printed_along m u) (printed_along (after_bytes m u) rest),
              ap length (printed_append m u rest),
              ap (λ (x : Bytes). length (printed_along m x)) e,
            );
          }

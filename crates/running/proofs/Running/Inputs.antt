-- The bytes that a run has read, chunk by chunk, and what it has written of what they print.
use mathlib.Core.List.{[], ◌++◌}
use mathlib.Core.Path.{◌≡◌, sym, ap, ◌∙◌}
use Prim.Native.Nat.{ℕ, ◌+◌, ◌*◌, ◌≤◌}
use native.Mathlib.Omega.{arith}
use lib.ListN.{length, length-append}
use Rattle.lines.specs.Bytes.{Bytes}
use Rattle.lines.specs.Printers.{Program}
use Rattle.lines.specs.Machine.{Machine, new_machine, after_bytes, printed_along, printed_at_end}
use Rattle.lines.proofs.Answers.{after_append, printed_nothing, printed_append}
use Rattle.answers.specs.Printed.{answer_room}
use Rattle.printers.specs.declared.Program.{Program as ProgramRun}
use Rattle.printers.specs.Programs.{program_of}
use Rattle.std.specs.Prelude.{Result, Ok, Err}
use Rattle.running.specs.declared.state.State.{State}
use Rattle.streams.specs.declared.failure.Failure.{Failure}
use Rattle.status.specs.declared.Stop.{Stop}
use Rattle.status.specs.declared.Stop.TheVariants.{ReadFailed, WriteFailed, TooLong}
use Rattle.status.specs.declared.Outcome.{Outcome}
use Rattle.running.specs.declared.run.Progress.{Progress}
use Rattle.running.specs.Inner.Machines.{machine_of}
use Rattle.running.specs.Runs.{most_read, Begun, outcome_of, WrittenSo, ChunkTaken, EndsSo, Ran, Stopped}
use Rattle.running.proofs.Running.Whole.{output_length}

-- what comes at the end of input was handed to a write
pub stopped_at_end : (state : State) (read written count : ℕ) (now : Progress) (ended : Result Unit Stop) → now.read ≡ read
    → count ≡ length (printed_at_end (machine_of state)) → WrittenSo ended written count now.written → Stopped state read written (outcome_of now ended)
unfolding EndsSo WrittenSo
stopped_at_end state read written count now (Ok _) e c h =
    record { same = e; ends = λ g input m n. omega (arith, output_length g input, h, c, ap (λ (k : Machine). length (printed_at_end k)) m, n) }
stopped_at_end state read written count now (Err (WriteFailed _)) e c h =
    record { same = e; ends = λ g input m n. omega (arith, output_length g input, h, c, ap (λ (k : Machine). length (printed_at_end k)) m, n) }
stopped_at_end state read written count now (Err (ReadFailed _)) e c h = absurd h
stopped_at_end state read written count now (Err TooLong) e c h = absurd h

-- so many bytes are read, and all that they print is written
pub record SoFar (g : Program) (now : Progress) : Type 0 where
  pub input : Bytes
  pub count : now.read ≡ length input
  pub number : now.state.printer.number ≤ 1 + now.read
  pub machine : machine_of now.state ≡ after_bytes (new_machine g) input
  pub all : now.written ≡ length (printed_along (new_machine g) input)
  pub few : now.written ≤ answer_room * now.read

pub nothing_read : {g : ProgramRun} {now : Progress} → Begun g now → SoFar (program_of g) now
unfolding after_bytes answer_room
nothing_read {g} b =
    let n = b.new in
    let none : length (printed_along (new_machine (program_of g)) []) ≡ 0 = rw (printed_nothing (new_machine (program_of g))) in
    record {
      input = [];
      count = b.read;
      number = omega (arith, n.number);
      machine = n.machine;
      all = omega (arith, b.written, none);
      few = omega (arith, b.written);
    }

module _ {g : Program} {now : Progress} (s : SoFar g now) where
  pub stopped : {r : Outcome} → Stopped now.state now.read now.written r → Ran g r
  stopped e = record { input = s.input; count = e.same ∙ s.count; ends = e.ends g s.input s.machine s.all }

  pub unread : (failure : Failure) → Ran g (outcome_of now (Err (ReadFailed failure)))
  unfolding EndsSo
  unread failure = record { input = s.input; count = s.count; ends = s.all }

  pub too_long : most_read ≤ now.read → Ran g (outcome_of now (Err TooLong))
  unfolding EndsSo
  too_long h = record { input = s.input; count = s.count; ends = (omega (arith, s.count), s.all) }

  module _ (bytes : Bytes) where
    abbrev both : Bytes
    both = s.input ++ bytes

    -- what both print is what the input prints, and then the chunk
    printed : length (printed_along (new_machine g) both) ≡ now.written + length (printed_along (machine_of now.state) bytes)
    printed =
        let m = after_bytes (new_machine g) s.input in
        omega (
          arith,
          s.all,
          ap length (printed_append (new_machine g) s.input bytes),
          length-append (printed_along (new_machine g) s.input) (printed_along m bytes),
          ap (λ (k : Machine). length (printed_along k bytes)) s.machine,
        )

    pub chunk_more : {next : Progress} → ChunkTaken now bytes next (Ok tt) → SoFar g next
    unfolding answer_room WrittenSo
    chunk_more c =
        record {
          input = both;
          count = omega (arith, c.read, s.count, length-append s.input bytes);
          number = omega (arith, c.number, s.number, c.read);
          machine = c.machine ∙ ap (λ (k : Machine). after_bytes k bytes) s.machine ∙ sym (after_append (new_machine g) s.input bytes);
          all = omega (arith, c.written, printed);
          few = omega (arith, c.few, s.few, c.read);
        }

    pub chunk_part : {next : Progress} (stop : Stop) → ChunkTaken now bytes next (Err stop) → Ran g (outcome_of next (Err stop))
    unfolding EndsSo WrittenSo
    chunk_part (ReadFailed _) c = absurd c.written
    chunk_part TooLong c = absurd c.written
    chunk_part (WriteFailed _) c =
        record {
          input = both;
          count = omega (arith, c.read, s.count, length-append s.input bytes);
          ends = omega (arith, c.written, printed, output_length g both);
        }

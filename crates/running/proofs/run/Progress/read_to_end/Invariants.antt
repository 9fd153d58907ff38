use mathlib.Core.Path.{◌≡◌}
use Prim.Native.Nat.{◌-◌}
use lib.ListN.{length}
use Rattle.printers.specs.declared.Program.{Program as ProgramRun}
use Rattle.printers.specs.Programs.{program_of}
use Rattle.running.specs.Runs.{buffer_length, Begun}
use Rattle.running.proofs.Running.Inputs.{SoFar}
use Rattle.running.proofs.run.Progress.read_to_end.Given as goal

abbrev pub invariant-loop-self : goal.invariant-loop-self
invariant-loop-self g l =
    ((program : ProgramRun) → Begun program l.fn.self → SoFar (program_of program) l.self) × (length l.chunk ≡ buffer_length) × (length l.out ≡ buffer_length)

abbrev pub decreases-loop-self : goal.decreases-loop-self
decreases-loop-self g l = 281474976710656 - l.self.read

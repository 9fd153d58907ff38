-- `finish`: what is left to print, handed to the write.
use mathlib.Core.Path.{◌≡◌}
use native.Mathlib.Omega.{arith}
use lib.ListN.{length, take}
use lib.Seq.{length-take-le}
use Rattle.lines.specs.Machine.{printed_at_end}
use Rattle.answers.specs.Printed.{answer_room}
use Rattle.running.specs.Inner.Machines.{machine_of}
use Rattle.running.specs.Runs.{buffer_length}
use Rattle.running.proofs.Running.Inputs.{stopped_at_end}
use Rattle.running.proofs.run.Progress.finish.Goals as goal

pub finish-end-requires-clause-has_room : goal.finish-end-requires-clause-has_room
unfolding answer_room buffer_length
finish-end-requires-clause-has_room g c = omega (arith, c.requires.buffer)

pub returns : goal.returns
returns g c =
    let f = c.finish-end in
    let count : length (take f.result f.new.out) ≡ length (printed_at_end (machine_of c.args.self.now.state)) =
    omega (arith, length-take-le f.result f.new.out (omega (arith, f.ensures.fits, f.auto.out)), f.ensures.end) in
    stopped_at_end c.args.self.now.state _ _ _ c.write.new.self c.write.result c.write.ensures.kept.1 count c.write.ensures.written

-- What is printed, handed to the write.
use mathlib.Core.Path.{refl}
use native.Mathlib.Omega.{arith}
use lib.ListN.{length-take}
use Rattle.buffer.proofs.Fitting.{room_put}
use Rattle.planning.specs.Room.{plan_room}
use Rattle.printing.specs.Lines.{room}
use Rattle.planning.specs.Runs.{EndsSo}
use Rattle.planning.proofs.run.answer.Goals as goal

pub returns-in-Ok : goal.returns-in-Ok
unfolding EndsSo plan_room room
returns-in-Ok g c =
    let printed = room_put (omega (arith, c.print_list-end.auto.out)) c.print_list-end.ensures in
    record { count = refl; ends = omega (arith, printed.end, c.in-Ok.ensures.all, length-take c.print_list-end.result c.print_list-end.new.out) }

pub returns-in-Err : goal.returns-in-Err
unfolding EndsSo plan_room room
returns-in-Err g c =
    let printed = room_put (omega (arith, c.print_list-end.auto.out)) c.print_list-end.ensures in
    record { count = refl; ends = omega (arith, printed.end, c.in-Err.ensures.fewer, length-take c.print_list-end.result c.print_list-end.new.out) }

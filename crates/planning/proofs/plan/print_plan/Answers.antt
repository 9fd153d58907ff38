use mathlib.Core.List.{[], ◌∷◌}
use native.Mathlib.Omega.{arith}
use lib.ListN.{length}
use Rattle.lines.specs.Bytes.{letter_S}
use Rattle.printing.specs.Lines.{line_numbers, room}
use Rattle.printing.proofs.Lines.{line_put}
use Rattle.buffer.proofs.Pieces.{put_behind, put_fewer, put_as}
use Rattle.planning.specs.Room.{plan_room}
use Rattle.planning.proofs.Baked.{plan_of}
use Rattle.planning.proofs.plan.print_plan.Goals as goal

pub print_slots-end-requires : goal.print_slots-end-requires
unfolding plan_room room
print_slots-end-requires c = (c.requires.0, omega (arith, c.requires.1))

pub returns : goal.returns
unfolding letter_S line_numbers plan_room room
returns c =
    let q = c.print_slots-end in
    let baked = c.baked_count-baked in
    let slots = c.args.slots.now in
    let line = line_put letter_S (length slots ∷ baked.result ∷ []) (omega arith) (omega (arith, c.requires.1, q.ensures.within, q.auto.out)) c.print_at.ensures in
    put_fewer (put_as (plan_of slots baked.result baked.ensures) (put_behind (omega arith) q.ensures line)) (omega arith)

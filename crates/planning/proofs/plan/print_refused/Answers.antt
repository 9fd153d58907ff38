use native.Mathlib.Omega.{arith}
use Rattle.lines.specs.Bytes.{letter_R}
use Rattle.printing.specs.Lines.{line_numbers, room}
use Rattle.printing.proofs.Lines.{line_put}
use Rattle.buffer.proofs.Pieces.{put_fewer}
use Rattle.planning.specs.Room.{plan_room}
use Rattle.planning.proofs.plan.print_refused.Goals as goal

pub returns : goal.returns
unfolding letter_R line_numbers plan_room room
returns c = put_fewer (line_put _ _ (omega arith) (omega arith) c.print_at.ensures) (omega arith)

-- The two totals, one behind the other, and the line end.
use native.Mathlib.Omega.{arith}
use Rattle.lines.specs.Bytes.{line_end}
use Rattle.lines.specs.Sheet.{line_columns, space, ◌ending_in◌, line_behind, line_with, totals_line}
use Rattle.buffer.proofs.Fitting.{room_put}
use Rattle.buffer.proofs.Pieces.{put_behind}
use Rattle.sheet.specs.Inner.Lines.{line_length}
use Rattle.sheet.proofs.print.put_totals.Goals as goal

pub returns : goal.returns
unfolding line_length line_columns totals_line line_with line_behind ◌ending_in◌ space line_end
returns c =
    let n = c.totals_of-totals.ensures in
    let out = put_behind (omega arith) (room_put (omega arith) c.put_right-end.ensures) (room_put (omega arith) c.put_bytes.ensures) in
    rw (← n.given_up, ← n.baked) (put_behind (omega arith) (room_put (omega arith) c.put_right-given_up_at.ensures) out)

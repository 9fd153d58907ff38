-- Each figure behind the one before it, and the line end.
use native.Mathlib.Omega.{arith}
use Rattle.lines.specs.Bytes.{line_end}
use Rattle.lines.specs.Sheet.{line_columns, space, ◌ending_in◌, line_behind, line_with, slot_line}
use Rattle.buffer.proofs.Fitting.{room_put}
use Rattle.buffer.proofs.Pieces.{put_behind}
use Rattle.page.specs.Pages.{figures_held}
use Rattle.sheet.specs.Inner.Lines.{line_length}
use Rattle.sheet.proofs.print.put_slot_line.Goals as goal

pub returns : goal.returns
unfolding line_length line_columns slot_line figures_held line_with line_behind ◌ending_in◌ space line_end
returns c =
    let out = put_behind (omega arith) (room_put (omega arith) c.put_right-end.ensures) (room_put (omega arith) c.put_bytes.ensures) in
    let grade = put_behind (omega arith) (room_put (omega arith) c.put_right-given_up_at.ensures) out in
    let ticket = put_behind (omega arith) (room_put (omega arith) c.put_right-grade_at.ensures) grade in
    put_behind (omega arith) (room_put (omega arith) c.put_right-ticket_at.ensures) ticket

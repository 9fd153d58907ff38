-- The closing's line, and past the closings one of spaces.
use native.Mathlib.Omega.{arith}
use Rattle.lines.specs.Bytes.{line_end}
use Rattle.lines.specs.Sheet.{line_columns, space, line_behind, line_with, blank_line}
use Rattle.buffer.proofs.Fitting.{room_put}
use Rattle.buffer.proofs.Pieces.{put_as}
use Rattle.page.proofs.OnPage.{no_figures}
use Rattle.sheet.specs.Inner.Lines.{line_length}
use Rattle.sheet.proofs.SlotLines.{closing_line, no_closing_line}
use Rattle.sheet.proofs.print.put_place.Goals as goal

pub returns-in-Some : goal.returns-in-Some
returns-in-Some c =
    let h = c.in-Some.ensures.lookup.3 in
    let same = rw (h.1 no_figures) at c.put_slot_line.ensures in
    put_as (closing_line c.args.closings.now c.args.i no_figures h.0) same

pub returns-in-None : goal.returns-in-None
unfolding line_length line_columns blank_line line_with line_behind space line_end
returns-in-None c = put_as (no_closing_line c.args.closings.now c.args.i c.in-None.ensures.lookup.3) (room_put (omega arith) c.put_bytes.ensures)

-- The heading, behind it the lines of the slots, behind them the totals.
use native.Mathlib.Omega.{arith}
use Rattle.lines.specs.Bytes.{letter_G, line_end}
use Rattle.lines.specs.Sheet.{line_columns, page_slots, space, to_right, ◌ending_in◌, line_behind, line_with, heading}
use Rattle.buffer.proofs.Fitting.{room_put}
use Rattle.buffer.proofs.Pieces.{put_behind, put_as}
use Rattle.page.specs.Pages.{page_of}
use Rattle.sheet.specs.Room.{page_length}
use Rattle.sheet.specs.Inner.Lines.{line_length}
use Rattle.sheet.proofs.SlotLines.{page_parts}
use Rattle.sheet.proofs.print.put_page.Goals as goal

pub returns : goal.returns
unfolding page_length page_slots line_length line_columns heading line_with line_behind ◌ending_in◌ to_right space letter_G line_end
returns c =
    let lines = put_behind (omega arith) c.put_places-totals_at.ensures c.put_totals.ensures in
    put_as (page_parts (page_of c.args.p.now)) (put_behind (omega arith) (room_put (omega arith) c.put_bytes-slots_at.ensures) lines)

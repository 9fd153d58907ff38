-- `finish`: the last line's answer, and behind it the tally of an open board or the sheet's last page.
use native.Mathlib.Omega.{arith}
use Rattle.buffer.proofs.Fitting.{fits_put}
use Rattle.buffer.proofs.Pieces.{put_as}
use Rattle.tallies.specs.Room.{tally_room}
use Rattle.answers.specs.Printed.{answer_room}
use Rattle.sheet.specs.Room.{page_length}
use Rattle.printers.proofs.PageRoom.{page_fitting}
use Rattle.session.specs.Inner.Days.{session_of}
use Rattle.running.specs.Inner.Machines.{machine_of}
use Rattle.running.proofs.Feeding.Ending.{board_end, sheet_end, ended}
use Rattle.running.proofs.feed.finish.Goals as goal

pub print_day-requires-clause-has_room : goal.print_day-requires-clause-has_room
unfolding answer_room tally_room
print_day-requires-clause-has_room c =
    omega (arith, c.last_line-end.ensures.within, c.last_line-end.auto.out, c.requires.has_room)

pub returns-in-Board : goal.returns-in-Board
unfolding answer_room tally_room
returns-in-Board c =
    let k = c.last_line-end.new.state in
    ended (machine_of c.args.state.now) c.requires.has_room (omega arith) c.last_line-end.ensures
    (put_as (board_end k.printer (session_of k.day) c.in-Board.is) c.print_day.ensures)

pub returns-in-Sheet : goal.returns-in-Sheet
unfolding answer_room page_length
returns-in-Sheet c =
    let k = c.last_line-end.new.state in
    ended (machine_of c.args.state.now) c.requires.has_room (omega arith) c.last_line-end.ensures
    (put_as (sheet_end k.printer (session_of k.day) c.in-Sheet.is)
    (fits_put _ (page_fitting c.last_line-end.result _ (omega (arith, c.last_line-end.ensures.within, c.last_line-end.auto.out, c.requires.has_room))) c.print_last.ensures))

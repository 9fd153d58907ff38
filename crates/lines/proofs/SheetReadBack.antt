-- The sheet of an input, read back.
use lib.Dec.{eqb, ltb}
use lib.ListN.{get_or}
use borrow.Author.Tests.{eqb-true}
use Rattle.lists.proofs.Tests.{and_left}
use Rattle.lists.proofs.Every.{every_at}
use Rattle.lines.specs.Session.{run}
use Rattle.lines.specs.Sheet.{closings_in, sheet, sheet_number}
use Rattle.lines.specs.SheetReadBack.{SheetReadBack}
use Rattle.lines.proofs.Sheets.{sheet_of}
use Rattle.lines.proofs.Sheets.Fits.{fits}
use Rattle.lines.proofs.Sheets.Ends.{sheet_ended}
use Rattle.lines.proofs.ClosingsFit.{closings_fit}

pub sheet_read_back : SheetReadBack
unfolding SheetReadBack sheet
sheet_read_back input =
    let fs = closings_in (run input).answers in
    record {
      line_ends = sheet_ended fs;
      sheet_of = sheet_of fs (closings_fit input);
      none_refused = λ i none h.
          let f = get_or fs i none in
          eqb-true (sheet_number f) 0 (and_left (eqb (sheet_number f) 0) (ltb f.ticket 4_294_967_296) (every_at fits fs i none (closings_fit input) h));
    }

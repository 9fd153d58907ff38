-- No more than the page has places for.
use native.Mathlib.Omega.{arith}
use Rattle.lines.specs.Sheet.{page_slots}
use Rattle.page.proofs.OnPage.{closings_counted}
use Rattle.page.proofs.Page.closing_count.Goals as goal

pub returns : goal.returns
unfolding page_slots
returns c =
    let n = closings_counted c.args.self.now in
    (omega arith, omega arith)

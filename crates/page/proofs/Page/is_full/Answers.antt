-- All its places are taken.
use mathlib.Core.Path.{ap}
use lib.Dec.{leb}
use Rattle.lines.specs.Sheet.{page_slots, is_full}
use Rattle.page.proofs.Page.is_full.Goals as goal

pub returns : goal.returns
unfolding is_full page_slots
returns c = ap (leb page_slots) c.closing_count.ensures.0

-- The page of the definition.
use mathlib.Core.Path.{refl}
use Rattle.lines.specs.Sheet.{page_slots}
use Rattle.page.specs.Pages.{new_page}
use Rattle.page.proofs.Page.new.Goals as goal

pub returns : goal.returns
unfolding new_page page_slots
returns c = refl

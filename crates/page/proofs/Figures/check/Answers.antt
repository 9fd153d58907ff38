-- Each of the three tests, or none.
use Rattle.std.proofs.Common.{arith}
use Rattle.std.proofs.lemmas.Bool.Decides.{nat_tests}
use Rattle.board.specs.Limits.{last_slot, deepest}
use Rattle.board.specs.Rows.{◌if◌, first_given}
use Rattle.lines.specs.Sheet.{most_given_up, sheet_number}
use Rattle.page.specs.Pages.{figures_held}
use Rattle.page.proofs.Figures.check.Goals as goal

pub returns-then-self-gt-LAST_SLOT : goal.returns-then-self-gt-LAST_SLOT
unfolding sheet_number first_given ◌if◌ figures_held last_slot deepest most_given_up
returns-then-self-gt-LAST_SLOT c = grind (arith, nat_tests)

pub returns : goal.returns
unfolding sheet_number first_given ◌if◌ figures_held last_slot deepest most_given_up
returns c = grind (arith, nat_tests)

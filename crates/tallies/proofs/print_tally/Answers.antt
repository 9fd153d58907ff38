-- What is known where the tally fits.
use Rattle.std.proofs.Common.{sym, ◌∙◌}
use Rattle.tallies.proofs.Fitting.{fitting_tally}
use Rattle.tallies.proofs.print_tally.Goals as goal

pub print_grades-requires : goal.print_grades-requires
print_grades-requires c = fitting_tally _ _ _ (sym c.tally_fits.ensures ∙ c.if-not-tally_fits.false)

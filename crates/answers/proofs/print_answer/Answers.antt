-- What is known where the answer fits.
use Rattle.std.proofs.Common.{sym, ◌∙◌}
use Rattle.answers.proofs.Room.{answer_fitting}
use Rattle.answers.proofs.print_answer.Goals as goal

pub print_fitting-requires : goal.print_fitting-requires
print_fitting-requires c =
    let f = answer_fitting _ _ _ _ (sym c.answer_fits.ensures ∙ c.if-not-answer_fits.false) in (f.few, f.as_many, f.room)

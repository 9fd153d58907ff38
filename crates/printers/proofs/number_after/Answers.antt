-- `number_after`: the next number, or this one.
use Rattle.std.proofs.Common.{sym}
use Rattle.lists.proofs.Tests.{cond_true}
use Rattle.printers.specs.Prints.{next_number}
use Rattle.printers.proofs.number_after.Goals as goal

pub returns-then-printed : goal.returns-then-printed
unfolding next_number
returns-then-printed c =
    let n = c.args.number in
    sym (cond_true _ (next_number n) n c.if-printed.true)

-- `print_by`: each program has its function.
use Rattle.std.proofs.Common.{refl}
use Rattle.printers.proofs.print_by.Goals as goal

pub returns-in-Board : goal.returns-in-Board
returns-in-Board c = c.print_lines.ensures _ c.in-Board.is refl

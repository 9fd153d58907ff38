-- `worklist::statements` ensures what is proved in proofs/.
use Rattle.worklist.proofs.Proved.{worklist}
use Rattle.worklist.proofs.statements.Goals as goal

pub returns : goal.returns
returns c = worklist

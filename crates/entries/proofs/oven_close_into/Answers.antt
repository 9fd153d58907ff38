-- Nothing is written before the first turn, and a turn writes one entry more.
use Rattle.entries.proofs.Written.{written_none, written_more}
use Rattle.entries.proofs.oven_close_into.Goals as goal

pub loop-i-init : goal.loop-i-init
loop-i-init c = written_none _ _

pub loop-i-preserved : goal.loop-i-preserved
loop-i-preserved c = rw (c.loop-i.invariant, c.entry.ensures) (written_more c.args.list.now c.closing-closed.result.parts c.loop-i.i)

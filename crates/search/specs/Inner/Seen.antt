-- What the slot bakes of the jobs that are seen of a board, sound or not.
use Rattle.std.proofs.Math.Option.{Option}
use Rattle.rule.specs.Job.{Job}
use Rattle.rule.specs.Bake.{baked}
use Rattle.board.specs.declared.Board.{Board}
use Rattle.board.specs.Held.{slot_of}
use Rattle.counts.specs.Seen.{seen}

-- The job that the slot bakes of those that are seen; of a sound board, the job that it bakes (proofs/OnSound).
unfoldable pub bakes_seen : Board → Option Job
bakes_seen b = baked (slot_of b) b.depth (seen b)

use Rattle.std.proofs.Common.{◌≡◌}
use Rattle.matching.specs.Layout.{next_to}
use Rattle.hindsight.specs.Inner.Layout.{job_of}
use Rattle.hindsight.proofs.listed.Listed.next_job.Given as goal

abbrev pub invariant-loop-i : goal.invariant-loop-i
invariant-loop-i l = l.best ≡ job_of (next_to l.self.windows.now l.waiting l.slot l.i)

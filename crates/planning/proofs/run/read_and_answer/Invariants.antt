-- 2665 bytes are the most that are read, and a buffer has 65536.
use mathlib.Core.Path.{◌≡◌}
use Prim.Native.Nat.{◌-◌, ◌≤◌}
use lib.ListN.{length}
use Rattle.planning.proofs.run.read_and_answer.Given as goal

abbrev pub invariant-loop-n : goal.invariant-loop-n
invariant-loop-n g l = (l.n ≤ 2665) × (length l.input ≡ 65536)

abbrev pub decreases-loop-n : goal.decreases-loop-n
decreases-loop-n g l = 2665 - l.n

use mathlib.Core.Bool.{Bool, not}
use Prim.Native.Nat.{ℕ}
use lib.Dec.{eqb}
use Rattle.rule.specs.Job.{Job}
use Rattle.board.proofs.Thinning.{Thinning}
use Rattle.withdrawing.proofs.without.Given as goal

-- the job has another ticket
abbrev other : ℕ → Job → Bool
other t r = not (eqb r.ticket t)

abbrev pub invariant-loop-p : goal.invariant-loop-p
invariant-loop-p l = Thinning l.fn.b (other l.ticket) l.held l.p-index l.count l.places

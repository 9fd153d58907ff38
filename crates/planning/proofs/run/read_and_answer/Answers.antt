-- Bytes read one behind the other, and then answered.
use mathlib.Core.Path.{refl}
use mathlib.Core.List.{List}
use Prim.Native.Nat.{ℕ, ◌≤◌}
use native.Mathlib.Omega.{arith}
use lib.ListN.{take, length-take}
use Rattle.lines.specs.Reading.{longest_line}
use Rattle.worklist.specs.Statements.{most_read}
use Rattle.status.specs.declared.Outcome.{Outcome}
use Rattle.planning.specs.Runs.{EndsSo, Ran, Answered}
use Rattle.planning.proofs.run.read_and_answer.Goals as goal

-- those read are answered
ran : (n : ℕ) (l : List ℕ) (r : Outcome) → n ≤ 2665 → Answered (take n l) r → Ran r
unfolding most_read longest_line
ran n l r h a = record { input = take n l; few = omega (arith, length-take n l); count = a.count; ends = a.ends }

pub returns-in-Ok-None : goal.returns-in-Ok-None
returns-in-Ok-None g c = ran _ _ _ c.loop-n.invariant.0 c.answer.ensures

pub returns-in-Err : goal.returns-in-Err
unfolding EndsSo
returns-in-Err g c =
    let v = c.loop-n.invariant in
    ran c.loop-n.n c.loop-n.input _ v.0 (record { count = omega (arith, length-take c.loop-n.n c.loop-n.input, v.0, v.1); ends = refl })

pub returns : goal.returns
returns g c = ran _ _ _ c.loop-n.invariant.0 c.answer-2.ensures

-- 02, One: 'A blank grade is spare, not best.'
use Rattle.std.specs.Prelude.{◌≡◌, ℕ, ◌^◌, ◌≤◌, ◌<◌}
use Rattle.std.proofs.Math.Option.{Option, none}
use Rattle.board.specs.declared.Board.{Board}
use Rattle.lines.specs.Bytes.{Bytes}
use Rattle.lines.specs.Fields.{grade_meant}
use Rattle.lines.specs.Reading.{admit_job, request}
use Rattle.lines.specs.Session.{a_refusal, step}

-- 'the worst grade of the open depth': a grade of that depth, and none of its grades is worse. 01: 'grades run from 0 (best) to 2^D − 1'.
pub record Worst (depth grade : ℕ) : Type 0 where
  pub in_depth : grade < 2 ^ depth
  pub none_worse : (g : ℕ) → g < 2 ^ depth → g ≤ grade

-- a blank grade is the worst of every depth, and whichever board is open, a line that has none is not refused with 6
pub record BlankGrade : Type 0 where
  pub worst : (depth : ℕ) → Worst depth (grade_meant depth none)
  pub never_6 : (o : Option Board) (l : Bytes) (ticket laxity : ℕ) → request l ≡ admit_job ticket laxity none → (step o l).answer ≡ a_refusal 6 → ⊥

-- What is proved of the program's definition, put together.
use mathlib.Core.Path.{◌≡◌, sym, ap, ◌∙◌}
use mathlib.Core.Bool.{true, false}
use mathlib.Core.Logic.{◌⊎◌, inl, inr}
use mathlib.Core.List.{List, map}
use mathlib.Core.Option.{Option, none, some}
use Prim.Native.Nat.{ℕ, ◌≤◌, ◌<◌}
use native.Mathlib.Omega.{arith}
use lib.ListN.{length}
use Rattle.lists.specs.Select.{every}
use Rattle.lists.proofs.Tests.{test, cmp, cond_false}
use Rattle.lines.specs.Bytes.{Bytes}
use Rattle.matching.specs.declared.BestDay.{BestDay}
use Rattle.matching.specs.Windows.{most_jobs, is_window}
use Rattle.matching.specs.Answer.{best_day}
use Rattle.matching.proofs.Best.Answered.{answered}
use Rattle.hindsight.proofs.Answering.{accepted}
use Rattle.worklist.specs.declared.Refused.{Refused}
use Rattle.worklist.specs.Lines.{window_rows, window_in}
use Rattle.worklist.specs.Refusals.{first_refused, read_lines, or_else, call_refused, refused_in}
use Rattle.worklist.specs.Output.{jobs_in}
use Rattle.worklist.specs.Statements.{Worklist}
use Rattle.worklist.proofs.Slots.{slot_refused}
use Rattle.worklist.proofs.ByCall.{windows_in, many, few}
use Rattle.worklist.proofs.Enough.{enough}

or_else_none : (a b : Option Refused) → or_else a b ≡ none → b ≡ none
unfolding or_else
or_else_none none b e = e
or_else_none (some r) b e = let z : ◌≡◌ {A = ℕ} 0 1 = cc e in absurd (omega arith)

some_none : {X : Type 0} {r : Refused} → some r ≡ none → X
some_none e = let z : ◌≡◌ {A = ℕ} 0 1 = cc e in absurd (omega arith)

module _ (ls : List Bytes) (e : refused_in ls ≡ none) where
  none_left : call_refused ls ≡ none
  unfolding refused_in
  none_left = or_else_none (first_refused window_rows 1 (read_lines ls)) (call_refused ls) e

  not_many : length ls ≤ most_jobs
  not_many = go (cmp (length ls) most_jobs)
    where
      go : (length ls ≤ most_jobs) ⊎ (most_jobs < length ls) → length ls ≤ most_jobs
      go (inl h) = h
      go (inr h) = some_none (sym (many ls h) ∙ none_left)

  all_windows : every is_window (map window_in ls) ≡ true
  all_windows = go (test (every is_window (map window_in ls)))
    where
      go : (every is_window (map window_in ls) ≡ true) ⊎ (every is_window (map window_in ls) ≡ false) → every is_window (map window_in ls) ≡ true
      go (inl h) = h
      go (inr h) = some_none (sym (few ls not_many ∙ slot_refused 1 ls ∙ cond_false (every is_window (map window_in ls)) none _ h) ∙ none_left)

  not_refused : (best_day (jobs_in ls)).refusal ≡ 0
  unfolding jobs_in
  not_refused = ap (λ (b : BestDay). b.refusal) (accepted (jobs_in ls) not_many (ap (every is_window) (windows_in ls) ∙ all_windows))

pub worklist : Worklist
worklist = record { best = λ ls e. (not_refused ls e, answered (jobs_in ls) (not_refused ls e)); enough = enough }

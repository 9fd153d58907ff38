-- A list of which no line is refused by rows 11, 13 and 14: what the call answers for its jobs decides.
use mathlib.Core.Path.{◌≡◌, refl, sym, ap, ◌∙◌}
use mathlib.Core.Bool.{Bool, true, false, cond}
use mathlib.Core.Logic.{◌⊎◌, inl, inr}
use mathlib.Core.List.{List, map}
use mathlib.Core.Option.{none, some}
use Prim.Native.Nat.{suc, ◌+◌, ◌≤◌, ◌<◌}
use native.Mathlib.Omega.{arith}
use lib.Dec.{ltb}
use lib.ListN.{length, length-take, length-map}
use lib.Seq.{take_all}
use borrow.Author.Tests.{lt-ltb, le-ltb}
use Rattle.lists.specs.Select.{every}
use Rattle.lists.proofs.Tests.{test, cmp, cond_true, cond_false}
use Rattle.lines.specs.Bytes.{Bytes}
use Rattle.matching.specs.declared.Window.{Window}
use Rattle.matching.specs.declared.Jobs.{Jobs}
use Rattle.matching.specs.declared.BestDay.{BestDay}
use Rattle.matching.specs.Windows.{most_jobs, is_window, windows_of}
use Rattle.matching.specs.Choice.{chosen}
use Rattle.matching.specs.Layout.{layout}
use Rattle.matching.specs.Answer.{best_day}
use Rattle.hindsight.proofs.Answering as answering
use Rattle.worklist.specs.Lines.{window_in, slot_rows}
use Rattle.worklist.specs.Refusals.{first_refused, read_lines, too_many, or_else, call_refused}
use Rattle.worklist.specs.Output.{jobs_in}
use Rattle.worklist.specs.Inner.Collecting.{Gathered, passing, refused_by_call}
use Rattle.worklist.proofs.Slots.{slot_refused}

-- the windows of a list's jobs
pub windows_in : (ls : List Bytes) → windows_of (jobs_in ls) ≡ map window_in ls
unfolding windows_of jobs_in
windows_in ls = take_all (length ls) (map window_in ls) (omega (arith, length-map ls window_in))

module _ (ls : List Bytes) where
  pub many : most_jobs < length ls → call_refused ls ≡ some (record { line = suc most_jobs; number = 18 })
  unfolding call_refused too_many or_else
  many h = ap (λ o. or_else o (first_refused slot_rows 1 ls)) (cond_true (ltb most_jobs (length ls)) _ none (lt-ltb most_jobs (length ls) h))

  pub few : length ls ≤ most_jobs → call_refused ls ≡ first_refused slot_rows 1 ls
  unfolding call_refused too_many or_else
  few h = ap (λ o. or_else o (first_refused slot_rows 1 ls)) (cond_false (ltb most_jobs (length ls)) _ none (le-ltb most_jobs (length ls) h))

-- jobs that the call does not refuse
pub not_over : (d : Jobs) → (best_day d).refusal ≡ 0 → d.count ≤ most_jobs
not_over d e = go (cmp d.count most_jobs)
  where
    go : (d.count ≤ most_jobs) ⊎ (most_jobs < d.count) → d.count ≤ most_jobs
    go (inl h) = h
    go (inr h) = absurd (omega (arith, sym (ap (λ (b : BestDay). b.refusal) (answering.too_many d h)) ∙ e))

module _ (ls : List Bytes) (d : Jobs) (g : Gathered (read_lines ls) d) where
  -- one too many
  over : most_jobs < d.count → call_refused ls ≡ refused_by_call (best_day d).refusal d
  unfolding read_lines refused_by_call
  over h =
      many ls (omega (arith, g.count, length-take (suc most_jobs) ls))
      ∙ sym (ap (λ (b : BestDay). refused_by_call b.refusal d) (answering.too_many d h))

  module _ (h : d.count ≤ most_jobs) where
    short : length ls ≤ most_jobs
    unfolding read_lines
    short = omega (arith, g.count, length-take (suc most_jobs) ls)

    all_read : read_lines ls ≡ ls
    unfolding read_lines
    all_read = take_all (suc most_jobs) ls (omega (arith, short))

    pub same_count : d.count ≡ length ls
    same_count = g.count ∙ ap length all_read

    pub same_windows : windows_of d ≡ map window_in ls
    same_windows = g.windows (omega (arith, g.count)) ∙ ap (map window_in) all_read

    refused_or_not : call_refused ls ≡ cond (every is_window (windows_of d)) none (some (record { line = 1 + passing is_window (windows_of d); number = 19 }))
    refused_or_not =
        few ls short
        ∙ slot_refused 1 ls
        ∙ ap (λ ws. cond (every is_window ws) none (some (record { line = 1 + passing is_window ws; number = 19 }))) (sym same_windows)

    within : (b : Bool) → every is_window (windows_of d) ≡ b → call_refused ls ≡ refused_by_call (best_day d).refusal d
    unfolding refused_by_call
    within true e =
        refused_or_not ∙ cond_true (every is_window (windows_of d)) none _ e ∙ sym (ap (λ (b : BestDay). refused_by_call b.refusal d) (answering.accepted d h e))
    within false e =
        let k : 1 + passing is_window (windows_of d) ≡ passing is_window (windows_of d) + 1 = omega arith in
        refused_or_not
        ∙ cond_false (every is_window (windows_of d)) none _ e
        ∙ ap (λ n. some (record { line = n; number = 19 })) k
        ∙ sym (ap (λ (b : BestDay). refused_by_call b.refusal d) (answering.no_window d h e))

  pub by_call : call_refused ls ≡ refused_by_call (best_day d).refusal d
  by_call = go (cmp d.count most_jobs)
    where
      go : (d.count ≤ most_jobs) ⊎ (most_jobs < d.count) → call_refused ls ≡ refused_by_call (best_day d).refusal d
      go (inl h) = within h (every is_window (windows_of d)) refl
      go (inr h) = over h

  -- the jobs are those of the list, where the call refuses none of it
  module _ (e : (best_day d).refusal ≡ 0) where
    all_windows : every is_window (windows_of d) ≡ true
    all_windows = go (test (every is_window (windows_of d)))
      where
        go : (every is_window (windows_of d) ≡ true) ⊎ (every is_window (windows_of d) ≡ false) → every is_window (windows_of d) ≡ true
        go (inl h) = h
        go (inr h) = absurd (omega (arith, sym (ap (λ (b : BestDay). b.refusal) (answering.no_window d (not_over d e) h)) ∙ e))

    pub count_in : d.count ≡ length ls
    count_in = same_count (not_over d e)

    pub day_in : best_day d ≡ best_day (jobs_in ls)
    unfolding jobs_in
    day_in =
        let same = same_windows (not_over d e) ∙ sym (windows_in ls) in
        answering.accepted d (not_over d e) all_windows
        ∙ ap (λ (ws : List Window). record { refusal = 0; slots = layout ws (chosen ws) }) same
        ∙ sym (answering.accepted (jobs_in ls) (omega (arith, count_in, not_over d e)) (ap (every is_window) (sym same) ∙ all_windows))

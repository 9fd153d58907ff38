-- What is proved of the best day in hindsight.
use Rattle.std.specs.Prelude.{◌≡◌, Bool, true, false, not, ◌⊎◌, List, ℕ, ◌≤◌, ◌<◌, eqb, length}
use Rattle.lists.specs.Select.{every}
use Rattle.matching.specs.declared.Window.{Window}
use Rattle.matching.specs.declared.Jobs.{Jobs}
use Rattle.matching.specs.Windows.{most_jobs, last_of, is_window, windows_of}
use Rattle.matching.specs.Assignments.{slot_given, IsAssignment, IsBest}
use Rattle.matching.specs.Choice.{is_in, all_fit, chosen}
use Rattle.matching.specs.Layout.{no_job, has_come, next_to, layout}
use Rattle.matching.specs.Answer.{best_day}

-- the plan bakes every job of the set
pub record BakesAll (ws : List Window) (c : List Bool) (slots : List ℕ) : Type 0 where
  pub plan : IsAssignment ws slots
  pub all : (i : ℕ) → i < length ws → is_in c i ≡ true → 1 ≤ slot_given slots i

-- the job that gets a slot, of the first n: none, where none has come; else one that has come, and every other that has come has a greater last slot, or
-- the same and stands later in the list
pub record NoneNext (ws : List Window) (waiting : List Bool) (slot n q : ℕ) : Type 0 where
  pub is_none : q ≡ no_job
  pub none : (i : ℕ) → i < n → has_come ws waiting slot i ≡ false

pub record IsNext (ws : List Window) (waiting : List Bool) (slot n q : ℕ) : Type 0 where
  pub below : q < n
  pub come : has_come ws waiting slot q ≡ true
  pub least : (i : ℕ) → i < n → has_come ws waiting slot i ≡ true → last_of ws q ≤ last_of ws i
  pub earliest : (i : ℕ) → i < n → has_come ws waiting slot i ≡ true → last_of ws i ≡ last_of ws q → q ≤ i

-- what holds of jobs with these windows
pub record OfJobs (ws : List Window) : Type 0 where
  -- a set fits exactly where some plan bakes all of it
  pub fit_assigned : (c : List Bool) → length c ≡ most_jobs → all_fit ws c ≡ true → BakesAll ws c (layout ws c)
  pub assigned_fit : (c : List Bool) (slots : List ℕ) → BakesAll ws c slots → all_fit ws c ≡ true
  -- the layout of the chosen jobs bakes, for every m at once, as many of the first m jobs as any plan can
  pub best : IsBest ws (layout ws (chosen ws))
  -- it bakes the chosen jobs and no others, and so does every plan that is best
  pub bakes_chosen : (i : ℕ) → i < length ws → not (eqb (slot_given (layout ws (chosen ws)) i) 0) ≡ is_in (chosen ws) i
  pub only_choice : (slots : List ℕ) → IsBest ws slots → (i : ℕ) → i < length ws → not (eqb (slot_given slots i) 0) ≡ is_in (chosen ws) i
  -- 'of those whose first slot has come, least last slot first, then earlier in the list'
  pub next : (waiting : List Bool) (slot : ℕ) → NoneNext ws waiting slot (length ws) (next_to ws waiting slot (length ws)) ⊎ IsNext ws waiting slot (length ws) (next_to ws waiting slot (length ws))
  -- '0 past the last rack'
  pub zero_past : (i : ℕ) → length ws ≤ i → slot_given (layout ws (chosen ws)) i ≡ 0

pub record BestInHindsight : Type 0 where
  -- of windows that no row refuses
  pub of_jobs : (ws : List Window) → length ws ≤ most_jobs → every is_window ws ≡ true → OfJobs ws
  -- a list that is not refused is answered by a best plan
  pub answered : (d : Jobs) → (best_day d).refusal ≡ 0 → IsBest (windows_of d) (best_day d).slots

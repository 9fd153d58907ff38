-- A list that is not refused.
use Rattle.std.specs.Prelude.{◌≡◌, true, List, ◌≤◌, length}
use Rattle.lists.specs.Select.{every}
use Rattle.matching.specs.declared.Window.{Window}
use Rattle.matching.specs.Windows.{most_jobs, is_window}

pub record Accepted (ws : List Window) : Type 0 where
  pub few : length ws ≤ most_jobs
  pub windows : every is_window ws ≡ true

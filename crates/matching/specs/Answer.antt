-- What the call answers.
use Rattle.std.specs.Prelude.{not, List, [], ◌∷◌, ℕ, zero, suc, ltb, replicate}
use Rattle.lists.specs.Select.{every}
use Rattle.board.specs.Rows.{Row, ◌if◌, first_given}
use Rattle.matching.specs.declared.Jobs.{Jobs}
use Rattle.matching.specs.declared.BestDay.{BestDay}
use Rattle.matching.specs.Windows.{most_jobs, is_window, windows_of}
use Rattle.matching.specs.Choice.{chosen}
use Rattle.matching.specs.Layout.{layout}

-- '18 for more than 64 racks, then 19 for a slot outside 1 to 64 or a last slot before the first'
unfoldable pub best_day_rows : Jobs → List Row
best_day_rows d =
    18 if ltb most_jobs d.count
    ∷ 19 if not (every is_window (windows_of d))
    ∷ []

-- '64 slot numbers in list order, 0 past the last rack and all 0 when refused'
unfoldable pub best_day_if : ℕ → Jobs → BestDay
best_day_if zero d = record { refusal = 0; slots = layout (windows_of d) (chosen (windows_of d)) }
best_day_if (suc n) d = record { refusal = suc n; slots = replicate most_jobs 0 }

unfoldable pub best_day : Jobs → BestDay
best_day d = best_day_if (first_given (best_day_rows d)) d

-- Jobs by their windows: the slots in which they can be baked. A job is named by its place in the list, counted from 0.
use Rattle.std.specs.Prelude.{Bool, ◌&&◌, List, ℕ, leb, get_or, take}
use Rattle.matching.specs.declared.Window.{Window}
use Rattle.matching.specs.declared.Jobs.{Jobs}

-- 'up to 64 racks, best first, each with first and last slot from 1 to 64'. In src/ these are the associated constants of `Jobs`; the function `limits`
-- there proves that the two are the same.
abbrev pub most_jobs : ℕ
most_jobs = 64

abbrev pub slot_count : ℕ
slot_count = 64

unfoldable pub no_window : Window
no_window = record { first = record { 0 = 0 }; last = record { 0 = 0 } }

unfoldable pub first_of : List Window → ℕ → ℕ
first_of ws i = (get_or ws i no_window).first.0

unfoldable pub last_of : List Window → ℕ → ℕ
last_of ws i = (get_or ws i no_window).last.0

-- the window lies in the slots from a to b
unfoldable pub inside : List Window → (a b i : ℕ) → Bool
inside ws a b i = leb a (first_of ws i) && leb (last_of ws i) b

-- not 'a slot outside 1 to 64 or a last slot before the first'
unfoldable pub is_window : Window → Bool
is_window w = leb 1 w.first.0 && (leb w.first.0 w.last.0 && leb w.last.0 slot_count)

-- the windows of the jobs, in list order
unfoldable pub windows_of : Jobs → List Window
windows_of d = take d.count d.windows

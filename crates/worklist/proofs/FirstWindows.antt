-- The jobs before the first without a window, along the first n places.
use mathlib.Core.Path.{◌≡◌, sym, ap, ◌∙◌}
use mathlib.Core.Bool.{not}
use Prim.Native.Nat.{ℕ, ◌≤◌, min}
use native.Mathlib.Omega.{arith}
use lib.ListN.{length, take, length-take}
use Rattle.std.specs.Option.{unwrap_or}
use Rattle.std.specs.List.{position}
use Rattle.lists.proofs.Filling.{take_least}
use Rattle.matching.specs.declared.Jobs.{Jobs}
use Rattle.matching.specs.Windows.{most_jobs, is_window, windows_of}
use Rattle.worklist.specs.Inner.Collecting.{passing}
use Rattle.worklist.proofs.Passing.{found_first, passing_within}

module _ (d : Jobs) (n : ℕ) (places : length d.windows ≡ most_jobs) (e : n ≡ min d.count most_jobs) where
  seen : windows_of d ≡ take n d.windows
  unfolding windows_of
  seen = sym (take_least n d.count d.windows (omega arith))

  pub first_of_places : unwrap_or (position (λ w. not (is_window w)) (take n d.windows)) n ≡ passing is_window (windows_of d)
  first_of_places =
      let m : n ≡ length (take n d.windows) = omega (arith, length-take n d.windows) in
      ap (unwrap_or (position (λ w. not (is_window w)) (take n d.windows))) m ∙ found_first is_window (take n d.windows) ∙ sym (ap (passing is_window) seen)

  pub places_within : passing is_window (windows_of d) ≤ most_jobs
  places_within = omega (arith, ap (passing is_window) seen, passing_within is_window (take n d.windows), length-take n d.windows)

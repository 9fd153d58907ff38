-- The jobs of a list that is not refused.
use mathlib.Core.Path.{◌≡◌, refl}
use mathlib.Core.List.{List}
use Prim.Native.Nat.{ℕ, ◌≤◌, ◌<◌}
use native.Mathlib.Omega.{arith}
use lib.ListN.{length, get_or}
use Rattle.matching.specs.declared.Window.{Window}
use Rattle.matching.specs.Windows.{slot_count, no_window, first_of, last_of}
use Rattle.matching.proofs.Windows.{WindowAt, window_at}
use Rattle.hindsight.specs.Inner.Accepted.{Accepted}

-- a place with no window, as the code has it past the last
abbrev pub blank : Window
blank = record { first = record { 0 = 0 }; last = record { 0 = 0 } }

pub window_of : (ws : List Window) → Accepted ws → (r : ℕ) → r < length ws → WindowAt ws r
window_of ws a r h = window_at ws a.windows r h

-- the window of a job, as the code reads it
module _ (ws : List Window) (r : ℕ) where
  pub first_there : first_of ws r ≡ (get_or ws r blank).first.0
  unfolding first_of no_window
  first_there = refl

  pub last_there : last_of ws r ≡ (get_or ws r blank).last.0
  unfolding last_of no_window
  last_there = refl

  module _ (a : Accepted ws) (h : r < length ws) where
    pub from_one : 1 ≤ (get_or ws r blank).first.0
    from_one = omega (arith, first_there, (window_of ws a r h).from_one)

    pub to_end : (get_or ws r blank).last.0 ≤ slot_count
    to_end = omega (arith, last_there, (window_of ws a r h).to_end)

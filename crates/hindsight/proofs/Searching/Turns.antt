-- A turn of the loop of `seek`: the slot of the job's window to look at.
use mathlib.Core.Path.{◌≡◌}
use mathlib.Core.Bool.{true, false}
use mathlib.Core.List.{List}
use Prim.Native.Nat.{ℕ, ◌+◌, ◌-◌, ◌*◌, ◌≤◌, ◌<◌}
use native.Mathlib.Omega.{arith}
use lib.ListN.{length, get_or}
use Rattle.matching.specs.declared.Window.{Window}
use Rattle.matching.specs.Windows.{slot_count}
use Rattle.hindsight.specs.declared.search.Trail.{Trail}
use Rattle.hindsight.specs.Inner.Search.{visited_at, unvisited, Held, Sought, ToMove, Moved}
use Rattle.hindsight.specs.Inner.Accepted.{Accepted}
use Rattle.hindsight.proofs.Searching.Listed.{blank, first_there, last_there, window_of}
use Rattle.hindsight.proofs.Searching.Trails.{unvisited_falls, visit_at, visit_falls, take_at}
use Rattle.hindsight.proofs.Searching.Looking.{Looking, look_on, room_there}
use Rattle.hindsight.proofs.Searching.Taken.{look_taken}

module _ (ws : List Window) (ok : Accepted ws) (r : ℕ) (job : r < length ws) (at : ℕ)
    (from_first : (get_or ws r blank).first.0 - 1 ≤ at) (to_last : at < (get_or ws r blank).last.0) where
  mine : Held ws at r
  mine = record { job = job; from_first = omega (arith, first_there ws r); to_last = omega (arith, last_there ws r) }

  pub in_range : at < slot_count
  in_range = omega (arith, (window_of ws ok r job).to_end, mine.to_last)

  module _ (s t : Trail) (l : Looking ws r s t at) where
    pub turn_room : ToMove ws at (visit_at t at)
    turn_room = room_there ws r s t at l in_range

    pub turn_falls : visited_at t at ≡ false → 2 * unvisited (visit_at t at) + 1 < 2 * unvisited s
    turn_falls f =
        omega (
          arith,
          visit_falls t at in_range f (omega (arith, in_range, l.fitting.visited_all)),
          unvisited_falls s t l.grows,
        )

    module _ (u : Trail) where
      pub turn_on : Moved ws at (visit_at t at) u false → Looking ws r s u (at + 1)
      turn_on m = look_on ws r s t at l in_range u m

      pub turn_taken : visited_at t at ≡ false → Moved ws at (visit_at t at) u true → Sought ws r s (take_at u at r) true
      turn_taken f m = look_taken ws r s t at l in_range f mine u m

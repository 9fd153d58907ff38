-- Laws of events that are left to be counted.
use mathlib.Core.Path.{◌≡◌}
use mathlib.Core.List.{List, [], ◌∷◌, map}
use Prim.Native.Nat.{ℕ, ◌+◌, ◌≤◌, ◌<◌}
use native.Mathlib.Numerals.{add-one}
use lib.ListN.{length, get_or, drop, drop_of_length-le}
use lib.Seq.{drop-cons}
use Rattle.board.specs.declared.Tally.{Tally}
use Rattle.board.specs.Events.{event, fed}

module _ (k : ℕ) (G : List ℕ) (i : ℕ) (t : Tally) where
  -- the event of the i-th grade, and those behind it
  pub next_event : i < length G → fed t (map (event k) (drop i G)) ≡ fed (fed t (event k (get_or G i 0) ∷ [])) (map (event k) (drop (i + 1) G))
  unfolding fed
  next_event h = rw (drop-cons G i 0 h, add-one)

  pub no_event : length G ≤ i → fed t (map (event k) (drop i G)) ≡ t
  unfolding fed
  no_event h = rw (drop_of_length-le G h)

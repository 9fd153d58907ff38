-- A board holds as many jobs as it counts.
use mathlib.Core.Path.{◌≡◌, ap}
use mathlib.Core.List.{[], map}
use Prim.Native.Nat.{◌≤◌}
use native.Mathlib.Omega.{arith}
use lib.ListN.{length, take, length-take, length-map}
use Rattle.board.specs.declared.Board.{Board}
use Rattle.board.specs.Held.{job_in, used, held}

pub held_count : (b : Board) → b.count ≤ length b.places → length (held b) ≡ b.count
unfolding held used
held_count b h = omega (arith, length-map (take b.count b.places) job_in, length-take b.count b.places)

pub no_jobs : (b : Board) → b.count ≡ 0 → held b ≡ []
unfolding held used
no_jobs b e = ap (λ n. map job_in (take n b.places)) e

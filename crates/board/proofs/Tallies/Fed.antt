-- A tally fed the events of calls, one call after another.
use mathlib.Core.Path.{◌≡◌, refl}
use mathlib.Core.Bool.{true}
use mathlib.Core.List.{List, [], ◌∷◌, ◌++◌}
use Prim.Native.Nat.{ℕ, zero, suc}
use native.Mathlib.Omega.{arith}
use lib.Dec.{eqb}
use Rattle.lists.specs.Select.{every}
use Rattle.lists.proofs.Tests.{and_right}
use Rattle.board.specs.declared.Tally.{Tally}
use Rattle.board.specs.Tally.{counted}
use Rattle.board.specs.Rows.{unless_refused}
use Rattle.board.specs.Events.{Event, fed, event_numbers, all_taken}

-- a call that is let through has its events
pub let_through : (n : ℕ) (es : List Event) → n ≡ 0 → unless_refused n es ≡ es
unfolding unless_refused
let_through zero es h = refl
let_through (suc n) es h = absurd (omega arith)

-- fed events and then others
pub fed_append : (t : Tally) (es fs : List Event) → fed t (es ++ fs) ≡ fed (fed t es) fs
unfolding fed
fed_append t [] fs = refl
fed_append t (e ∷ es) fs = fed_append (counted t e.kind e.grade).tally es fs

-- if all are taken, the others are
pub taken_append : (t : Tally) (es fs : List Event) → all_taken t (es ++ fs) ≡ true → all_taken (fed t es) fs ≡ true
unfolding fed all_taken event_numbers every
taken_append t [] fs h = h
taken_append t (e ∷ es) fs h =
    let r = counted t e.kind e.grade in
    taken_append r.tally es fs (and_right (eqb r.refusal 0) (all_taken r.tally (es ++ fs)) h)

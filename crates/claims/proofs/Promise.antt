-- A sound board's jobs stand as the theorem on promises asks.
use mathlib.Core.Path.{◌≡◌, sym, ◌∙◌}
use mathlib.Core.Bool.{true}
use Prim.Native.Nat.{ℕ, ◌<◌}
use native.Mathlib.Omega.{arith}
use Rattle.feasibility.specs.Promise.{StillPromised}
use Rattle.feasibility.proofs.Promise.{still_promised}
use Rattle.board.specs.declared.Board.{Board}
use Rattle.board.specs.Limits.{longest_laxity}
use Rattle.board.specs.Held.{slot_of, held}
use Rattle.board.specs.Sound.{sound}
use Rattle.board.specs.Promise.{promise_of}
use Rattle.board.proofs.Soundness.Apart.{facts}
use Rattle.board.proofs.Calls.Promise.{promise_carried, promise_asks_sound}
use Rattle.claims.specs.Promise.{BoardPromise, NeverSoldOut}
use Rattle.claims.proofs.Shortfall.{stands}

still : (b : Board) → sound b ≡ true → (t g : ℕ) → b.highest < t → StillPromised longest_laxity (slot_of b) (held b) t g (promise_of b)
unfolding promise_of
still b s t g h =
    still_promised (stands b s) (record { some = omega arith; above = λ r m. omega (arith, ((facts b s).each r m).known) }) g longest_laxity

pub board_promise : BoardPromise
unfolding BoardPromise
board_promise b s = record { still = still b s; carried = promise_carried b }

pub never_sold_out : NeverSoldOut
unfolding NeverSoldOut
never_sold_out b h t g new w i j P z = (still b (promise_asks_sound b h) t g new).zero_only_if (sym (promise_carried b h) ∙ z) w i (omega arith) P

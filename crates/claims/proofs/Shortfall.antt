-- A sound board's jobs stand as the theorem on plans asks.
use mathlib.Core.Path.{◌≡◌}
use mathlib.Core.Bool.{true}
use Rattle.feasibility.proofs.Plans.{Waiting}
use Rattle.feasibility.proofs.Fewest.{fewest}
use Rattle.board.specs.declared.Board.{Board}
use Rattle.board.specs.Held.{slot_of, held}
use Rattle.board.specs.Sound.{sound}
use Rattle.board.specs.Close.{shortfall_of}
use Rattle.board.proofs.Soundness.Apart.{facts}
use Rattle.board.proofs.Calls.Shortfall.{shortfall_carried}
use Rattle.claims.specs.Shortfall.{BoardShortfall}

pub stands : (b : Board) → sound b ≡ true → Waiting (slot_of b) (held b)
stands b s = let F = facts b s in record { rising = record { rises = F.tickets_rise }; come = λ r m. (F.each r m).begun }

pub board_shortfall : BoardShortfall
unfolding BoardShortfall shortfall_of
board_shortfall b s = record { fewest = fewest (slot_of b) (held b) (stands b s); carried = shortfall_carried b }

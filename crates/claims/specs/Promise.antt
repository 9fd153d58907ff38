-- What the answer to 'What can we still promise?' says. 02, Six.
use Rattle.std.specs.Prelude.{◌≡◌, true, ℕ, ◌≤◌, ◌<◌}
use Rattle.feasibility.specs.Promise.{CanPromise, StillPromised}
use Rattle.board.specs.declared.Board.{Board}
use Rattle.board.specs.Limits.{longest_laxity}
use Rattle.board.specs.Held.{slot_of, held}
use Rattle.board.specs.Sound.{sound}
use Rattle.board.specs.Promise.{promise_of, promised}

pub record PromiseSays (b : Board) : Type 0 where
  -- 'w the least wait from 1 to' the longest 'such that some plan from the present slot on bakes one further rack of wait w and every rack on the board,
  -- nobody else arriving, the book taken as endless. It gives 0 if, and only if, there is no such wait.' The further job has any ticket that is new, and any
  -- grade.
  pub still : (ticket grade : ℕ) → b.highest < ticket → StillPromised longest_laxity (slot_of b) (held b) ticket grade (promise_of b)
  -- the answer carries it, where it is not refused
  pub carried : (promised b).refusal ≡ 0 → (promised b).laxity.0 ≡ promise_of b

-- on every sound board
unfoldable pub BoardPromise : Type 0
BoardPromise = (b : Board) → sound b ≡ true → PromiseSays b

-- 'A sold-out day must never be reported while a plan exists': while some plan bakes every job on the board and one further, of a wait from 1 to the
-- longest, an answer that is not refused is not 0.
unfoldable pub NeverSoldOut : Type 0
NeverSoldOut =
    (b : Board) → (promised b).refusal ≡ 0 → (ticket grade : ℕ) → b.highest < ticket → (w : ℕ) → 1 ≤ w → w ≤ longest_laxity
    → CanPromise (slot_of b) (held b) ticket grade w → ¬ ((promised b).laxity.0 ≡ 0)

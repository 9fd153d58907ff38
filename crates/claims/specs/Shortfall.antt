-- What the shortfall in a closing's answer says. 02, Five.
use Rattle.std.specs.Prelude.{◌≡◌, true, ℕ}
use Rattle.feasibility.specs.Fewest.{Fewest}
use Rattle.board.specs.declared.Board.{Board}
use Rattle.board.specs.Held.{slot_of, held}
use Rattle.board.specs.Sound.{sound}
use Rattle.board.specs.Close.{shortfall_of, closed}

pub record ShortfallSays (b : Board) : Type 0 where
  -- 'It must equal the least number of the racks on the board before the bake that any plan from that bake on gives up if nothing more arrives, slots past
  -- the book's end counted.'
  pub fewest : Fewest (slot_of b) (held b) (shortfall_of b)
  -- 'The closing's answer carries the shortfall', where it is not refused
  pub carried : (lent : ℕ) → (closed b lent).refusal ≡ 0 → (closed b lent).shortfall ≡ shortfall_of b

-- on every sound board
unfoldable pub BoardShortfall : Type 0
BoardShortfall = (b : Board) → sound b ≡ true → ShortfallSays b

-- Lists of calls: 'every list of admittings and closings on one board, refused calls included, with any arguments and any lent lists'; 02, Seven: and
-- withdrawals.
use Rattle.std.specs.Prelude.{ℕ}
use Rattle.board.specs.declared.Board.{Board}
use Rattle.board.specs.Admit.{admitted}
use Rattle.board.specs.Close.{closed}
use Rattle.board.specs.Withdraw.{withdrawn}

-- a call with its arguments; of a lent list the number of its entries matters
pub data Call : Type 0 where
  admit : (ticket laxity grade : ℕ) → Call
  close : (lent : ℕ) → Call
  withdraw : (ticket : ℕ) → Call

-- the board that a call hands back, and the ticket that its answer names as baked (0 where it names none)
unfoldable pub board_after : Board → Call → Board
board_after b (admit t w g) = (admitted b t w g).board
board_after b (close lent) = (closed b lent).board
board_after b (withdraw t) = (withdrawn b t).board

unfoldable pub ticket_named : Board → Call → ℕ
ticket_named b (admit t w g) = 0
ticket_named b (close lent) = (closed b lent).ticket
ticket_named b (withdraw t) = 0

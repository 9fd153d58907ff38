-- What opening answers.
use Rattle.std.specs.Prelude.{[], ◌∷◌, ℕ, zero, suc, ltb, replicate, Result, Ok, Err}
use Rattle.board.specs.declared.Board.{Board}
use Rattle.board.specs.declared.Opened.{Opened}
use Rattle.board.specs.declared.refusal.Refusal.{Refusal}
use Rattle.board.specs.Limits.{places_held, deepest}
use Rattle.board.specs.Rows.{◌if◌, first_given}
use Rattle.board.specs.Refusals.{number_of}
use Rattle.board.specs.Held.{slot_number, blank}

-- a board with no jobs
unfoldable pub empty_board : (depth slot highest : ℕ) → Board
empty_board d k h = record { depth = d; slot = slot_number k; highest = h; count = 0; places = replicate places_held blank }

-- 'depth above 3; the returned board is all zero'; 'A new board has slot 1, highest ticket 0 and no racks.'
unfoldable pub opened_if : ℕ → ℕ → Opened
opened_if zero d = record { refusal = 0; board = empty_board d 1 0 }
opened_if (suc n) d = record { refusal = suc n; board = empty_board 0 0 0 }

unfoldable pub opened : ℕ → Opened
opened d = opened_if (first_given (1 if ltb deepest d ∷ [])) d

-- a new board, or why there is none, as opening answers it
abbrev pub opened_as : Result Board Refusal → Opened
opened_as (Ok b) = record { refusal = 0; board = b }
opened_as (Err r) = record { refusal = number_of r; board = empty_board 0 0 0 }

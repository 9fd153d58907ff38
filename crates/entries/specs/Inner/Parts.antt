-- Inside: the entries with each part in an array of its own, and a list into which they are written one by one.
use Rattle.std.specs.Prelude.{◌≡◌, List, ℕ, zero, suc, ◌≤◌, length, get_or, set}
use Rattle.board.specs.declared.Board.{Board}
use Rattle.board.specs.Limits.{places_held}
use Rattle.board.specs.Held.{slot_number}
use Rattle.board.specs.Close.{closed, listing}
use Rattle.board.specs.Lent.{written_over}
use Rattle.entries.specs.declared.Entry.{Entry}
use Rattle.entries.specs.declared.Parts.{Parts}
use Rattle.entries.specs.declared.ClosedParts.{ClosedParts}
use Rattle.entries.specs.Entries.{entry_of}

unfoldable pub entry_at : Parts → ℕ → Entry
entry_at p i = record { ticket = get_or p.tickets i 0; grade = get_or p.grades i 0; admitted = slot_number (get_or p.slots i 0) }

-- the list with the first n entries written from its start
unfoldable pub written : List Entry → Parts → ℕ → List Entry
written ys p zero = ys
written ys p (suc n) = set (written ys p n) n (entry_at p n)

-- a closing of the board b for a list of so many entries: it has room for the jobs listed, and holds them once they are written
pub record Gathered (b : Board) (lent : ℕ) (r : ClosedParts) : Type 0 where
  pub answer : r.answer ≡ closed b lent
  pub few : r.count ≤ places_held
  pub room : r.count ≤ lent
  pub list : (ys : List Entry) → length ys ≡ lent → written ys r.parts r.count ≡ written_over entry_of (listing b lent) ys

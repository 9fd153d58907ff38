-- How the board and the day book agree along a list of calls.
use mathlib.Core.Path.{◌≡◌, sym, ap, ◌∙◌}
use mathlib.Core.Bool.{true}
use mathlib.Core.List.{Memᴰ}
use Prim.Native.Nat.{ℕ, ◌≤◌}
use Rattle.lists.specs.Select.{select}
use Rattle.rule.specs.Job.{Job, in_date}
use Rattle.books.specs.Book.{present, highest, jobs}
use Rattle.board.specs.declared.Board.{Board}
use Rattle.board.specs.Held.{slot_of, held}
use Rattle.board.specs.Sound.{sound}
use Rattle.board.proofs.Soundness.Facts.{admitted_in}
use Rattle.claims.specs.DayBook.{Day, waiting}

-- at the depth d and in the slot s
pub record Agree (d s : ℕ) (b : Board) (D : Day) : Type 0 where
  pub is_sound : sound b ≡ true
  pub depth : b.depth ≡ d
  pub slot : slot_of b ≡ s
  pub book_slot : present D.book ≡ s
  pub same_highest : highest D.book ≡ b.highest
  pub same_intake : admitted_in s (jobs D.book) ≡ admitted_in s (held b)
  -- no job of the book is of a later slot
  pub begun : (r : Job) → Memᴰ r (jobs D.book) → r.admitted ≤ s
  -- the jobs on the board are those not yet baked that are in date
  pub on_board : held b ≡ select (in_date s) D.left

-- the jobs that wait in the book are those on the board
pub waiting_held : {d s : ℕ} {b : Board} {D : Day} → Agree d s b D → waiting D ≡ held b
unfolding waiting
waiting_held {D = D} a = ap (λ k. select (in_date k) D.left) a.book_slot ∙ sym a.on_board

-- Board and book still agree after a withdrawal that the rows let through: the book begins afresh with what is left on the board.
use mathlib.Core.Path.{◌≡◌, sym, ap, ◌∙◌, subst}
use Prim.Native.Nat.{ℕ}
use Rattle.books.specs.Book.{highest}
use Rattle.books.specs.Rule.{without}
use Rattle.board.specs.declared.Board.{Board}
use Rattle.board.specs.Held.{slot_of, held, thinned}
use Rattle.board.specs.Withdraw.{without_ticket}
use Rattle.board.proofs.Calls.HeldAfter.{held_without}
use Rattle.board.proofs.Calls.SoundAfter.{without_ticket_sound}
use Rattle.claims.specs.Calls.{withdraw}
use Rattle.claims.specs.DayBook.{Day, new_day, waiting, through}
use Rattle.claims.specs.Demand3.{begun_from}
use Rattle.claims.proofs.Agreement.Agree.{Agree, waiting_held}
use Rattle.claims.proofs.Agreement.Beginning.{agree_begun}

module _ {d s : ℕ} {b : Board} {D : Day} (a : Agree d s b D) (t : ℕ) where
  left_there : without t (waiting D) ≡ held (without_ticket b t)
  unfolding without
  left_there = ap (without t) (waiting_held a) ∙ sym (held_without b t)

  pub afresh : through d D (withdraw t) ≡ new_day (begun_from (without_ticket b t))
  unfolding through new_day begun_from without_ticket thinned
  afresh = λ i. new_day (record { slot = (a.book_slot ∙ sym a.slot) i; highest = a.same_highest i; jobs = left_there i })

  pub same_depth : (without_ticket b t).depth ≡ d
  unfolding without_ticket thinned
  same_depth = a.depth

  pub same_slot : slot_of (without_ticket b t) ≡ s
  unfolding without_ticket thinned
  same_slot = a.slot

  pub agree_withdrawn : Agree d s (without_ticket b t) (through d D (withdraw t))
  agree_withdrawn =
      subst (Agree d s (without_ticket b t)) (sym afresh) (agree_begun (without_ticket b t) (without_ticket_sound b t a.is_sound) same_depth same_slot)

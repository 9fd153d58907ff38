-- The jobs that a closing lists: how many there are, and the lent list with them.
use mathlib.Core.Path.{◌≡◌, refl}
use mathlib.Core.List.{List, [], map}
use Prim.Native.Nat.{ℕ, zero, suc, ◌≤◌}
use native.Mathlib.Omega.{arith}
use lib.ListN.{length, take, drop, length-append, length-map}
use lib.Seq.{take_at}
use Rattle.rule.specs.Job.{Job}
use Rattle.board.specs.declared.Board.{Board}
use Rattle.board.specs.Rows.{unless_refused}
use Rattle.board.specs.Close.{close_number, closed_with, closed_if, given_up, closed, listing}
use Rattle.board.specs.Lent.{Lent, written_over, lent_with}

module _ (b : Board) (lent : ℕ) where
  -- the answer says how many are listed
  pub listed_number : (closed b lent).listed ≡ length (listing b lent)
  unfolding closed closed_if closed_with listing unless_refused
  listed_number = go (close_number b lent)
    where
      go : (n : ℕ) → (closed_if n b).listed ≡ length (unless_refused n (given_up b))
      go zero = refl
      go (suc n) = refl

  -- a closing that is not refused lists the jobs given up
  pub listing_given_up : (closed b lent).refusal ≡ 0 → listing b lent ≡ given_up b
  unfolding closed closed_if closed_with listing unless_refused
  listing_given_up h = go (close_number b lent) h
    where
      go : (n : ℕ) → (closed_if n b).refusal ≡ 0 → unless_refused n (given_up b) ≡ given_up b
      go zero h = refl
      go (suc n) h = absurd (omega arith)

-- the list l with the jobs A has room for them, and begins with them
module _ {E : Type 0} (entry : Job → E) (A : List Job) (l : List E) where
  pub written_room : length A ≤ length (written_over entry A l)
  unfolding written_over
  written_room = omega (arith, length-append (map entry A) (drop (length A) l), length-map A entry)

  pub written_first : take (length A) (written_over entry A l) ≡ map entry A
  unfolding written_over
  written_first = take_at (map entry A) (drop (length A) l) (length A) (length-map A entry)

-- with no jobs it is as it was
pub lent_with_none : (l : Lent) → lent_with [] l ≡ l
unfolding lent_with written_over
lent_with_none l = refl

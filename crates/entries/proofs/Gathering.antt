-- A closing into three arrays, of as many of their entries as the list has, is the closing that the list's owner asks for.
use mathlib.Core.Path.{◌≡◌, refl, ap, ◌∙◌}
use mathlib.Core.Bool.{Bool, true, false}
use mathlib.Core.List.{List, ◌++◌, map, append_assoc}
use Prim.Native.Nat.{ℕ, ◌≤◌, min}
use native.Mathlib.Omega.{arith}
use lib.Dec.{leb}
use lib.ListN.{length, take, drop, replicate, length-replicate}
use lib.Seq.{length-take-le}
use borrow.Author.Tests.{leb-true, leb-false, le-leb, lt-leb}
use Rattle.rule.specs.Job.{Job}
use Rattle.board.specs.declared.Board.{Board}
use Rattle.board.specs.declared.Closed.{Closed}
use Rattle.board.specs.Limits.{places_held}
use Rattle.board.specs.Rows.{close_rows, unless_refused}
use Rattle.board.specs.Close.{close_number, closed_if, given_up, closed, listing}
use Rattle.board.specs.Lent.{Lent, lent_of, entry_count, written_over, lent_with, ClosedInto}
use Rattle.board.proofs.Calls.Listing.{listed_number, written_room}
use Rattle.entries.specs.declared.Entry.{Entry}
use Rattle.entries.specs.declared.Parts.{Parts}
use Rattle.entries.specs.Entries.{entry_of}
use Rattle.entries.specs.Inner.Parts.{written, Gathered}
use Rattle.entries.proofs.Written.{Begins, written_all}

-- row 8 asks only whether a list has as many entries as the board has places
long_enough : (lent : ℕ) → leb places_held (min lent places_held) ≡ leb places_held lent
long_enough lent = go (leb places_held lent) refl
  where
    go : (t : Bool) → leb places_held lent ≡ t → leb places_held (min lent places_held) ≡ t
    go true e = le-leb places_held (min lent places_held) (omega (arith, leb-true places_held lent e))
    go false e = lt-leb places_held (min lent places_held) (omega (arith, leb-false places_held lent e))

number_alike : (b : Board) (lent : ℕ) → close_number b (min lent places_held) ≡ close_number b lent
unfolding close_number close_rows
number_alike b lent = rw long_enough refl

-- the arrays of which the first n entries are lent
abbrev pub zeros : List ℕ
zeros = replicate places_held 0

abbrev pub first : ℕ → Lent
first n = lent_of (take n zeros) (take n zeros) (take n zeros)

pub first_length : (n : ℕ) → n ≤ places_held → length (take n zeros) ≡ n
first_length n few = length-take-le n zeros (omega (arith, length-replicate {A = ℕ} places_held 0))

first_count : (n : ℕ) → n ≤ places_held → entry_count (first n) ≡ n
unfolding entry_count
first_count n few = omega (arith, first_length n few)

-- a list with the jobs X begins with them
begins : (n : ℕ) (f : Job → ℕ) (X : List Job) {part : List ℕ} → part ≡ written_over f X (take n zeros) → Begins f X (part ++ drop n zeros)
unfolding written_over
begins n f X e =
    let rest = drop (length X) (take n zeros) in
    record { rest = rest ++ drop n zeros; is = ap (◌++ drop n zeros) e ∙ append_assoc (map f X) rest (drop n zeros) }

module _ (b : Board) (lent n : ℕ) (n_is : n ≡ min lent places_held) (after : Lent) (r : Closed) (long : length after.tickets ≡ length (take n zeros))
    (c : ClosedInto b (first n) after r) where
  -- the arrays afterwards
  abbrev pub parts : Parts
  parts = record { tickets = after.tickets ++ drop n zeros; grades = after.grades ++ drop n zeros; slots = after.slots ++ drop n zeros }

  -- the closing for the arrays has the number of the closing for the list
  same_number : close_number b (entry_count (first n)) ≡ close_number b lent
  same_number = ap (close_number b) (first_count n (omega arith) ∙ n_is) ∙ number_alike b lent

  answer : r ≡ closed b lent
  unfolding closed
  answer = c.answer ∙ ap (λ k. closed_if k b) same_number

  -- the jobs listed
  abbrev X : List Job
  X = listing b lent

  list : after ≡ lent_with X (first n)
  unfolding listing
  list = c.list ∙ ap (λ k. lent_with (unless_refused k (given_up b)) (first n)) same_number

  count : r.listed ≡ length X
  count = ap (λ (q : Closed). q.listed) answer ∙ listed_number b lent

  room : length X ≤ n
  unfolding lent_with
  room =
      omega (
        arith,
        long,
        first_length n (omega arith),
        ap (λ (l : Lent). length l.tickets) list,
        written_room (λ (j : Job). j.ticket) X (take n zeros),
      )

  entries : (ys : List Entry) → length ys ≡ lent → written ys parts r.listed ≡ written_over entry_of X ys
  unfolding lent_with
  entries ys h =
      ap (written ys parts) count
      ∙ written_all X parts
      (begins n _ X (ap (λ (l : Lent). l.tickets) list))
      (begins n _ X (ap (λ (l : Lent). l.grades) list))
      (begins n _ X (ap (λ (l : Lent). l.slots) list)) ys (omega (arith, room))

  pub gathered : Gathered b lent (record { answer = r; count = r.listed; parts = parts })
  gathered = record { answer = answer; few = omega (arith, count, room); room = omega (arith, count, room); list = entries }

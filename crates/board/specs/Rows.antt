-- Where each check stands: rows, and the first that fails.
use Rattle.std.specs.Prelude.{Bool, true, cond, not, ◌&&◌, List, [], ◌∷◌, ℕ, zero, suc, ◌^◌, leb, eqb}
use Rattle.std.proofs.Math.Option.{Option, none, some}
use Rattle.rule.specs.Job.{Job, with_ticket}
use Rattle.board.specs.Limits.{longest_laxity, most_in_slot, places_held, last_slot}

-- a row of 01's table: its number, and whether it is given
pub record Row : Type 0 where
  pub number : ℕ
  pub given : Bool

infix 90 ◌if◌
unfoldable pub ◌if◌ : ℕ → Bool → Row
n if b = record { number = n; given = b }

-- 'checks run in the order of the rows. The first that fails is the one given': 0 where none is
unfoldable pub first_given : List Row → ℕ
first_given [] = 0
first_given (r ∷ rows) = cond r.given r.number (first_given rows)

-- Row 3: 'slot is 1,000,001', which is past the last of the book
abbrev pub book_ended : (slot : ℕ) → Row
book_ended slot = 3 if eqb slot (suc last_slot)

-- Rows 3 to 7, for admitting: row 3, 'ticket not above the highest so far', 'Waits are 1 to 24 now; 25 gets number 5' (02, Eight), 'grade not below 2^D',
-- 'eight racks on the board were admitted in this slot'. They read a slot, a highest ticket, the number of jobs admitted in that slot and a depth: the
-- board's, or the day book's.
unfoldable pub admit_rows : (slot highest in_slot depth ticket laxity grade : ℕ) → List Row
admit_rows slot highest in_slot depth ticket laxity grade =
    book_ended slot
    ∷ 4 if leb ticket highest
    ∷ 5 if not (leb 1 laxity && leb laxity longest_laxity)
    ∷ 6 if leb (2 ^ depth) grade
    ∷ 7 if leb most_in_slot in_slot
    ∷ []

-- Rows 3 and 8, for closing with a lent list of so many entries: row 3, and '8 is for fewer than 192 entries' (02, Eight).
unfoldable pub close_rows : (slot lent : ℕ) → List Row
close_rows slot lent =
    book_ended slot
    ∷ 8 if not (leb places_held lent)
    ∷ []

-- 02, Six: 'Numbers 2 and 3 apply.' Row 3, for asking what can be promised.
unfoldable pub promise_rows : (slot : ℕ) → List Row
promise_rows slot = book_ended slot ∷ []

-- 02, Seven: '17 [..] when the ticket is not on the board or was admitted in this slot', of the job that has the ticket
unfoldable pub not_to_withdraw : (slot : ℕ) → Option Job → Bool
not_to_withdraw slot none = true
not_to_withdraw slot (some r) = eqb r.admitted slot

-- Rows 3 and 17, for withdrawing a ticket. They read a slot and the jobs waiting in it: those on the board, or those of the day book that are in date and
-- not yet baked there.
unfoldable pub withdraw_rows : (slot : ℕ) → List Job → (ticket : ℕ) → List Row
withdraw_rows slot waiting ticket =
    book_ended slot
    ∷ 17 if not_to_withdraw slot (with_ticket ticket waiting)
    ∷ []

-- what a call lists or counts: nothing, where it is refused
unfoldable pub unless_refused : {A : Type 0} → (refusal : ℕ) → List A → List A
unless_refused zero l = l
unless_refused (suc n) l = []

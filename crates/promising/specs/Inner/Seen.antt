-- What can be promised beside the jobs that are seen of a board, sound or not.
use Rattle.std.specs.Prelude.{◌≡◌, List, ℕ, Option, Result, Ok, Err}
use Rattle.rule.specs.Promise.{least_promised}
use Rattle.board.specs.declared.Board.{Board}
use Rattle.board.specs.declared.Laxity.{Laxity}
use Rattle.board.specs.declared.Promised.{Promised}
use Rattle.board.specs.declared.refusal.Refusal.{Refusal}
use Rattle.board.specs.Limits.{longest_laxity}
use Rattle.board.specs.Rows.{first_given, promise_rows}
use Rattle.board.specs.Held.{slot_of}
use Rattle.board.specs.Promise.{laxity_number, promised_refused, promised_with}
use Rattle.board.specs.Refusals.{number_of}
use Rattle.packing.specs.declared.Head.{Head}
use Rattle.packing.specs.Inner.Packed.{board_in}
use Rattle.counts.specs.Seen.{seen}
use Rattle.search.specs.Inner.Answers.{laxity_in}

-- row 3, and then the least laxity beside these jobs; on a sound board this is 02's answer (proofs/OnSound)
unfoldable pub promised_seen : Board → Promised
promised_seen b = promised_with (first_given (promise_rows (slot_of b))) (least_promised longest_laxity (slot_of b) (seen b))

-- an answer in 02's numbers: 0 for no laxity, and the number of a refusal
abbrev pub promised_as : Result (Option Laxity) Refusal → Promised
promised_as (Ok w) = record { refusal = 0; laxity = laxity_number (laxity_in w) }
promised_as (Err r) = promised_refused (number_of r)

-- so for every board that the arrays can be of, whatever the jobs' tickets are and when they were admitted
abbrev pub PromisedOf : Head → (keys : List ℕ) → Result (Option Laxity) Refusal → Type 0
PromisedOf h K r = (T A : List ℕ) → promised_as r ≡ promised_seen (board_in h K T A)

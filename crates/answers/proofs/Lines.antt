-- A line of an answer, printed where there is room for any answer.
use Rattle.std.proofs.Common.{◌≡◌, ℕ, ◌+◌, ◌≤◌, leb, List, length, take, ap, ◌∙◌, arith}
use Rattle.lines.specs.Bytes.{Bytes}
use Rattle.lines.specs.Printing.{printed}
use Rattle.lines.specs.Output.{printed_answer}
use Rattle.buffer.specs.Puts.{PutWithin, PutIf}
use Rattle.buffer.proofs.Pieces.{put_as, put_fewer}
use Rattle.printing.specs.Lines.{line_numbers, room}
use Rattle.printing.proofs.Lines.{line_put}
use Rattle.answers.specs.declared.Answer.{Answer}
use Rattle.answers.specs.Printed.{answer_of, answer_room}

-- an answer that is known to be this one is printed as this one
pub said : (i : ℕ) (T G : List ℕ) {a b : Answer} → a ≡ b → printed_answer i (answer_of a T G) ≡ printed_answer i (answer_of b T G)
said i T G e = ap (λ (x : Answer). printed_answer i (answer_of x T G)) e

module _ (letter : ℕ) (ns : List ℕ) {out : Bytes} {at r : ℕ} {out' : Bytes} (few : length ns ≤ 5) where
  pub line_within : at + room ≤ length out → PutIf (leb (at + room) (length out)) room (printed letter (take line_numbers ns)) out at r out' → PutWithin room (printed letter ns) out at r out'
  unfolding line_numbers
  line_within h p = line_put letter ns few h p

  -- the answer is this line
  pub answered : (i : ℕ) (T G : List ℕ) {a b : Answer} → a ≡ b → printed_answer i (answer_of b T G) ≡ printed letter ns → at + answer_room ≤ length out
      → PutIf (leb (at + room) (length out)) room (printed letter (take line_numbers ns)) out at r out' → PutWithin answer_room (printed_answer i (answer_of a T G)) out at r out'
  unfolding room answer_room
  answered i T G e line h p = put_as (said i T G e ∙ line) (put_fewer (line_within (omega arith) p) (omega arith))

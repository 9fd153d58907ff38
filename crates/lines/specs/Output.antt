-- What the program prints: a line or more for each answer, and the tally at the end.
use Rattle.std.specs.Prelude.{List, [], ◌∷◌, ◌++◌, ℕ, zero, suc, ◌^◌, length}
use Rattle.std.proofs.Math.Option.{Option, none, some}
use Rattle.board.specs.declared.Board.{Board}
use Rattle.board.specs.declared.Tally.{Tally}
use Rattle.board.specs.Tally.{count_at}
use Rattle.board.specs.Events.{admitted_kind, baked_kind, given_up_kind, withdrawn_kind}
use Rattle.lines.specs.Bytes.{Bytes, letter_A, letter_B, letter_D, letter_G, letter_Q, letter_R, letter_T, letter_W}
use Rattle.lines.specs.Printing.{printed}
use Rattle.lines.specs.Session.{Named, Closing, Answer, a_refusal, an_opening, an_admitting, a_closing, a_promise, a_withdrawal, run}

-- 'for each of those `G,slot,ticket,grade`', in the order of the jobs given up: 02, Four, 'G lines are compared line by line'
unfoldable pub printed_given_up : (slot : ℕ) → List Named → Bytes
printed_given_up k [] = []
printed_given_up k (r ∷ A) = printed letter_G (k ∷ r.ticket ∷ r.grade ∷ []) ++ printed_given_up k A

-- `B,slot,ticket,grade,number given up`; 02, Five: 'The B line has' the shortfall 'as a sixth field'. Then the G lines.
unfoldable pub printed_closing : Closing → Bytes
printed_closing c =
    printed letter_B (c.slot ∷ c.baked.ticket ∷ c.baked.grade ∷ length c.given_up ∷ c.shortfall ∷ [])
    ++ printed_given_up c.slot c.given_up

-- 'for a refusal `R,line number from 1,number`'; `D,depth`; `A,ticket,last slot`; `Q,w`; 02, Seven: 'prints the same line without leading
-- zeros'
unfoldable pub printed_answer : (line : ℕ) → Answer → Bytes
printed_answer i (a_refusal n) = printed letter_R (i ∷ n ∷ [])
printed_answer i (an_opening d) = printed letter_D (d ∷ [])
printed_answer i (an_admitting t k) = printed letter_A (t ∷ k ∷ [])
printed_answer i (a_closing c) = printed_closing c
printed_answer i (a_promise w) = printed letter_Q (w ∷ [])
printed_answer i (a_withdrawal t) = printed letter_W (t ∷ [])

-- the answers from line i on
unfoldable pub printed_answers : (line : ℕ) → List Answer → Bytes
printed_answers i [] = []
printed_answers i (a ∷ rest) = printed_answer i a ++ printed_answers (suc i) rest

-- `T,grade,admitted,baked,given up`; 02, Seven: 'the T line has' withdrawn 'as its sixth field'
unfoldable pub tally_line : ℕ → Tally → Bytes
tally_line g t =
    printed letter_T (g ∷ count_at t admitted_kind g ∷ count_at t baked_kind g ∷ count_at t given_up_kind g ∷ count_at t withdrawn_kind g ∷ [])

-- n grades from g on
unfoldable pub printed_tally : ℕ → ℕ → Tally → Bytes
printed_tally zero g t = []
printed_tally (suc n) g t = tally_line g t ++ printed_tally n (suc g) t

-- 'At the end, if a board is open, [..] for each grade from 0 to 2^D − 1'
unfoldable pub at_end : Option Board → Tally → Bytes
at_end none t = []
at_end (some b) t = printed_tally (2 ^ b.depth) 0 t

-- The program: standard input to standard output.
unfoldable pub output : Bytes → Bytes
output input =
    let r = run input in
    printed_answers 1 r.answers ++ at_end r.session.board r.session.tally

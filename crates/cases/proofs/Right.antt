-- Whether the definitions give the answers of a case.
use mathlib.Core.Bool.{Bool, true, false, beq, ◌&&◌, ◌||◌}
use mathlib.Core.List.{List, [], ◌∷◌, ◌++◌, map}
use Prim.Native.Nat.{ℕ, suc, ◌-◌}
use lib.Dec.{eqb}
use lib.ListN.{length, replicate}
use Rattle.rule.specs.Job.{Job}
use Rattle.rule.specs.Promise.{with_further}
use Rattle.books.specs.Book.{slots_closed}
use Rattle.books.specs.Schedule.{total, from_slot}
use Rattle.feasibility.specs.PlanFrom.{given_up_by}
use Rattle.board.specs.declared.Place.{Place}
use Rattle.board.specs.declared.Board.{Board}
use Rattle.board.specs.Limits.{places_held}
use Rattle.board.specs.Held.{slot_number, slot_of, blank, held}
use Rattle.board.specs.Sound.{sound}
use Rattle.board.specs.Open.{empty_board}
use Rattle.board.specs.Admit.{admitted}
use Rattle.board.specs.Close as Close
use Rattle.board.specs.Promise.{promised}
use Rattle.board.specs.Withdraw.{withdrawn}
use Rattle.claims.specs.Calls.{Call, admit, close, withdraw, board_after}
use Rattle.claims.specs.Stretches.{Stretch, book_of, our_plan, stretches_of}
use Rattle.lines.specs.Output.{output}
use Rattle.lines.specs.Sheet.{Figures, page, sheet, sheet_number, page_after}

-- equal lists of numbers, and lists of these
unfoldable pub same : List ℕ → List ℕ → Bool
same [] [] = true
same [] (n ∷ k) = false
same (m ∷ l) [] = false
same (m ∷ l) (n ∷ k) = eqb m n && same l k

unfoldable pub same_all : List (List ℕ) → List (List ℕ) → Bool
same_all [] [] = true
same_all [] (n ∷ k) = false
same_all (m ∷ l) [] = false
same_all (m ∷ l) (n ∷ k) = same m n && same_all l k

-- a place and a board by their numbers; places that are not given are blank
unfoldable pub place : (ticket admitted last grade : ℕ) → Place
place t a l g = record { ticket = t; admitted = slot_number a; last = slot_number l; grade = g }

unfoldable pub board : (depth slot highest count : ℕ) → List Place → Board
board d k h c xs =
    record { depth = d; slot = slot_number k; highest = h; count = c; places = xs ++ replicate (places_held - length xs) blank }

unfoldable pub sound_right : Board → Bool → Bool
sound_right b s = beq (sound b) s

-- an answer as its numbers, the refusal first
unfoldable pub answer : Board → Call → List ℕ
answer b (admit t w g) = let r = admitted b t w g in r.refusal ∷ r.last.0 ∷ []
answer b (close lent) = let r = Close.closed b lent in r.refusal ∷ r.ticket ∷ r.grade ∷ r.listed ∷ r.shortfall ∷ []
answer b (withdraw t) = let r = withdrawn b t in r.refusal ∷ r.grade ∷ []

-- a closing's answer, the jobs given up in the order in which they are listed, and a plan from the slot on, a ticket each, that gives up as many as the
-- shortfall says
unfoldable pub close_right : Board → List ℕ → List (List ℕ) → List ℕ → Bool
close_right b a gone laid =
    same (answer b (close places_held)) a
    && same_all (map (λ (r : Job). r.ticket ∷ r.admitted ∷ r.grade ∷ []) (Close.given_up b)) gone
    && eqb (given_up_by (from_slot (slot_of b) laid) (slot_of b) (held b)) (Close.shortfall_of b)

-- what can be promised, and unless it is 0 a plan from the slot on, a ticket each, that gives up neither a job on the board nor the further one, whose ticket
-- is the next
unfoldable pub promise_right : Board → ℕ → List ℕ → Bool
promise_right b w kept =
    let r = promised b in
    same (r.refusal ∷ r.laxity.0 ∷ []) (0 ∷ w ∷ [])
    && (eqb w 0 || eqb (given_up_by (from_slot (slot_of b) kept) (slot_of b) (with_further (slot_of b) (held b) (suc b.highest) w 0)) 0)

-- a board's closing and its promise
unfoldable pub board_right : Board → List ℕ → List (List ℕ) → List ℕ → ℕ → List ℕ → Bool
board_right b a gone laid w kept = close_right b a gone laid && promise_right b w kept

unfoldable pub answers : Board → List Call → List (List ℕ)
answers b [] = []
answers b (c ∷ cs) = answer b c ∷ answers (board_after b c) cs

-- a job as its numbers
unfoldable pub job_numbers : Job → List ℕ
job_numbers r = r.ticket ∷ r.admitted ∷ r.last ∷ r.grade ∷ []

-- a withdrawal: the answer, and on the board that it hands back the jobs, the depth, the slot and the highest ticket
unfoldable pub withdraw_right : Board → (ticket : ℕ) → List ℕ → List (List ℕ) → Bool
withdraw_right b t a left =
    let c = board_after b (withdraw t) in
    same (answer b (withdraw t)) a
    && same_all (map job_numbers (held c)) left
    && same (c.depth ∷ slot_of c ∷ c.highest ∷ []) (b.depth ∷ slot_of b ∷ b.highest ∷ [])

-- what our plan bakes in the first k slots of a stretch, from k on
unfoldable pub totals : Stretch → ℕ → List ℕ → List ℕ
totals x k [] = []
totals x k (n ∷ ns) = total (book_of x) (our_plan x) k ∷ totals x (suc k) ns

-- what is told of a stretch: the slot, the highest ticket and the jobs with which its book begins, and the most that any plan bakes in its first 0, 1, .. slots,
-- up to the slots closed
pub record Told : Type 0 where
  pub slot : ℕ
  pub highest : ℕ
  pub first : List (List ℕ)
  pub most : List ℕ

unfoldable pub stretch : (slot highest : ℕ) → (first : List (List ℕ)) → (most : List ℕ) → Told
stretch k h first most = record { slot = k; highest = h; first = first; most = most }

unfoldable pub stretch_right : Stretch → Told → Bool
stretch_right x t =
    let b = (book_of x).beginning in
    same (b.slot ∷ b.highest ∷ []) (t.slot ∷ t.highest ∷ [])
    && same_all (map job_numbers b.jobs) t.first
    && eqb (suc (slots_closed (book_of x))) (length t.most)
    && same (totals x 0 t.most) t.most

unfoldable pub stretches_right : List Stretch → List Told → Bool
stretches_right [] [] = true
stretches_right [] (t ∷ ts) = false
stretches_right (x ∷ xs) [] = false
stretches_right (x ∷ xs) (t ∷ ts) = stretch_right x t && stretches_right xs ts

-- a list of calls on an empty board: the answers, and its stretches
unfoldable pub book_right : (depth slot highest : ℕ) → List Call → List (List ℕ) → List Told → Bool
book_right d k h cs told ts = let b = empty_board d k h in same_all (answers b cs) told && stretches_right (stretches_of b cs) ts

-- a day's input and output
unfoldable pub day_right : List ℕ → List ℕ → Bool
day_right input printed = same (output input) printed

-- the sheet of a day
unfoldable pub sheet_right : List ℕ → List ℕ → Bool
sheet_right input printed = same (sheet input) printed

-- a closing's figures as numbers
unfoldable pub figures : (slot ticket grade given_up : ℕ) → Figures
figures k t g n = record { slot = k; ticket = t; grade = g; given_up = n }

unfoldable pub numbers : Figures → List ℕ
numbers f = f.slot ∷ f.ticket ∷ f.grade ∷ f.given_up ∷ []

-- a closing handed to a page: the number, the closings on the page after it, and its text
unfoldable pub page_right : List Figures → Figures → ℕ → List (List ℕ) → List ℕ → Bool
page_right p f number after text =
    eqb (sheet_number f) number && same_all (map numbers (page_after p f)) after && same (page (page_after p f)) text

-- The rows of opening, and of the other calls on a sound board, give none of the numbers 2, 8, 9 and 10.
use mathlib.Core.Path.{◌≡◌, refl, sym, ap, ◌∙◌}
use mathlib.Core.Bool.{Bool, true, false, not, cond, ◌||◌}
use mathlib.Core.Logic.{◌⊎◌, inl, inr}
use mathlib.Core.List.{List, [], ◌∷◌}
use mathlib.Core.Option.{Option, none, some}
use Prim.Native.Nat.{ℕ, zero, suc, ◌≤◌, ◌<◌}
use lib.Dec.{leb, ltb, eqb}
use native.Mathlib.Omega.{arith}
use borrow.Author.Tests.{leb-true, ltb-false, eqb-true, ne_eqb}
use Rattle.lists.specs.Select.{every}
use Rattle.lists.proofs.Tests.{never, and_left, and_right, or_cases}
use Rattle.board.specs.declared.Board.{Board}
use Rattle.board.specs.Limits.{places_held, deepest}
use Rattle.board.specs.Rows.{Row, ◌if◌, first_given, admit_rows, close_rows, promise_rows, withdraw_rows}
use Rattle.board.specs.Held.{slot_of, held, in_slot}
use Rattle.board.specs.Sound.{sound}
use Rattle.board.specs.Open.{opened_if, opened}
use Rattle.board.specs.Admit.{admit_number, admitted_if, admitted}
use Rattle.board.specs.Close.{close_number, closed_with, closed_if, closed}
use Rattle.board.specs.Promise.{promise_number, promise_of, promised}
use Rattle.board.specs.Withdraw.{withdraw_number, withdrawn_if, withdrawn}
use Rattle.board.proofs.Calls.Rows.{row_passed}
use Rattle.board.proofs.Calls.SoundAfter.{admit_number_sound, close_number_sound, withdraw_number_sound}
use Rattle.board.proofs.Calls.Promise.{promise_number_sound, promised_refusal}
use Rattle.lines.specs.Bytes.{Bytes}
use Rattle.lines.specs.Reading.{Form, form_of, too_long, form_rows, line_rows, line_number}

-- a number that the program may meet
abbrev pub may_meet : ℕ → Bool
may_meet n = not (eqb n 2 || eqb n 8 || eqb n 9 || eqb n 10)

-- the number of the first row given passes a test that 0 passes, if that of each row does or the row is not given
module _ (p : ℕ → Bool) (z : p 0 ≡ true) where
  abbrev harmless : Row → Bool
  harmless r = p r.number || not r.given

  pub first_passes : (rows : List Row) → every harmless rows ≡ true → p (first_given rows) ≡ true
  unfolding first_given every
  first_passes [] h = z
  first_passes (r ∷ rows) h =
      go r.given (and_left (harmless r) (every harmless rows) h) (first_passes rows (and_right (harmless r) (every harmless rows) h))
    where
      go : (c : Bool) → (p r.number || not c) ≡ true → p (first_given rows) ≡ true → p (cond c r.number (first_given rows)) ≡ true
      go true k ih = elim (or_cases (p r.number) false k) [ inl e ↦ e | inr e ↦ never e refl ]
      go false k ih = ih

-- an answer's number is the one that the rows give
opened_number : (d : ℕ) → (opened d).refusal ≡ first_given (1 if ltb deepest d ∷ [])
unfolding opened opened_if
opened_number d = go (first_given (1 if ltb deepest d ∷ []))
  where
    go : (n : ℕ) → (opened_if n d).refusal ≡ n
    go zero = refl
    go (suc n) = refl

pub admitted_number : (b : Board) (t w g : ℕ) → (admitted b t w g).refusal ≡ admit_number b t w g
unfolding admitted admitted_if
admitted_number b t w g = go (admit_number b t w g)
  where
    go : (n : ℕ) → (admitted_if n b t w g).refusal ≡ n
    go zero = refl
    go (suc n) = refl

pub closed_number : (b : Board) (lent : ℕ) → (closed b lent).refusal ≡ close_number b lent
unfolding closed closed_if closed_with
closed_number b lent = go (close_number b lent)
  where
    go : (n : ℕ) → (closed_if n b).refusal ≡ n
    go zero = refl
    go (suc n) = refl

pub withdrawn_number : (b : Board) (t : ℕ) → (withdrawn b t).refusal ≡ withdraw_number b t
unfolding withdrawn withdrawn_if
withdrawn_number b t = go (withdraw_number b t)
  where
    go : (n : ℕ) → (withdrawn_if n b t).refusal ≡ n
    go zero = refl
    go (suc n) = refl

-- an opening that is not refused is of a depth that a board may have
pub opened_shallow : (d : ℕ) → (opened d).refusal ≡ 0 → d ≤ deepest
opened_shallow d e = ltb-false deepest d (row_passed 0 (ltb deepest d) [] (sym (opened_number d) ∙ e)).0

pub may_open : (d : ℕ) → may_meet (opened d).refusal ≡ true
unfolding every ◌if◌
may_open d = ap may_meet (opened_number d) ∙ first_passes may_meet refl (1 if ltb deepest d ∷ []) refl

pub may_admit : (b : Board) (t w g : ℕ) → sound b ≡ true → may_meet (admitted b t w g).refusal ≡ true
unfolding every ◌if◌ admit_rows
may_admit b t w g s =
    ap may_meet (admitted_number b t w g ∙ admit_number_sound b t w g s)
    ∙ first_passes may_meet refl (admit_rows (slot_of b) b.highest (in_slot b) b.depth t w g) refl

-- every place of the board is lent
pub may_close : (b : Board) → sound b ≡ true → may_meet (closed b places_held).refusal ≡ true
unfolding every ◌if◌ close_rows places_held
may_close b s =
    ap may_meet (closed_number b places_held ∙ close_number_sound b places_held s)
    ∙ first_passes may_meet refl (close_rows (slot_of b) places_held) refl

pub may_promise : (b : Board) → sound b ≡ true → may_meet (promised b).refusal ≡ true
unfolding promised every ◌if◌ promise_rows
may_promise b s =
    ap may_meet (promised_refusal (promise_number b) (promise_of b) ∙ promise_number_sound b s)
    ∙ first_passes may_meet refl (promise_rows (slot_of b)) refl

pub may_withdraw : (b : Board) (t : ℕ) → sound b ≡ true → may_meet (withdrawn b t).refusal ≡ true
unfolding every ◌if◌ withdraw_rows
may_withdraw b t s =
    ap may_meet (withdrawn_number b t ∙ withdraw_number_sound b t s)
    ∙ first_passes may_meet refl (withdraw_rows (slot_of b) (held b) t) refl

-- rows 11 to 15 give no number below 11
abbrev none_or_11 : ℕ → Bool
none_or_11 n = eqb n 0 || leb 11 n

pub from_11 : (opened : Bool) (l : Bytes) → let n = line_number opened l in (n ≡ 0) ⊎ (11 ≤ n)
unfolding line_number line_rows form_rows every ◌if◌
from_11 opened l =
    let n = line_number opened l in
    elim (or_cases (eqb n 0) (leb 11 n) (first_passes none_or_11 refl (line_rows opened l) (go (form_of l)))) [
      | inl e ↦ inl (eqb-true n 0 e)
      | inr e ↦ inr (leb-true 11 n e)
    ]
  where
    go : (q : Option Form) → every (λ r. none_or_11 r.number || not r.given) (11 if too_long l ∷ form_rows q opened l) ≡ true
    go none = refl
    go (some r) = refl

pub may_line : (opened : Bool) (l : Bytes) → may_meet (line_number opened l) ≡ true
may_line opened l = go (line_number opened l) (from_11 opened l)
  where
    go : (n : ℕ) → (n ≡ 0) ⊎ (11 ≤ n) → may_meet n ≡ true
    go n (inl e) = ap may_meet e
    go n (inr k) =
        let other : (m : ℕ) → m < 11 → eqb n m ≡ false = λ m h. ne_eqb n m (λ e. omega arith) in
        simp (other 2 (omega arith), other 8 (omega arith), other 9 (omega arith), other 10 (omega arith))

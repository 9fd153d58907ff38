-- What a call makes of a stretch: it is refused, or it is let through, and board and day book agree after it.
use mathlib.Core.Path.{◌≡◌, refl, sym, ap, ◌∙◌, subst}
use mathlib.Core.Bool.{true, false}
use mathlib.Core.List.{[]}
use Prim.Native.Nat.{ℕ, zero, suc}
use native.Mathlib.Omega.{arith}
use lib.Dec.{eqb}
use borrow.Author.Tests.{ne_eqb}
use Rattle.board.specs.declared.Board.{Board}
use Rattle.board.specs.Admit.{admit_number, admitted_if, admitted}
use Rattle.board.specs.Close.{close_number, closed_with, closed_if, closed}
use Rattle.board.specs.Withdraw.{withdraw_number, withdrawn_if, withdrawn}
use Rattle.claims.specs.Calls.{Call, admit, close, withdraw, board_after, ticket_named}
use Rattle.claims.specs.DayBook.{lets_through, through}
use Rattle.claims.specs.Stretches.{Stretch, go_on}
use Rattle.claims.proofs.Agreement.Numbers.{same_admit, same_close, same_withdraw}
use Rattle.claims.proofs.Drawing.Runs.{Runs, runs_admitted, runs_closed, runs_withdrawn}

pub data Outcome (d : ℕ) (b : Board) (x : Stretch) (c : Call) : Type 0 where
  refused : lets_through d x.day c ≡ false → board_after b c ≡ b → Outcome d b x c
  taken : lets_through d x.day c ≡ true → (s : ℕ) → Runs d s (board_after b c) (go_on d x b c) → Outcome d b x c

-- the rows give a number of the book, the board has the same: whether it is 0
none_given : {n m : ℕ} → n ≡ m → m ≡ 0 → eqb n 0 ≡ true
none_given e f = ap (λ k. eqb k 0) (e ∙ f)

some_given : {n m : ℕ} (k : ℕ) → n ≡ m → m ≡ suc k → eqb n 0 ≡ false
some_given k e f = ap (λ k. eqb k 0) (e ∙ f) ∙ ne_eqb (suc k) 0 (omega arith)

module _ {d s : ℕ} {b : Board} {x : Stretch} (R : Runs d s b x) where
  admit_step : (t w g : ℕ) → Outcome d b x (admit t w g)
  unfolding lets_through board_after admitted admitted_if go_on
  admit_step t w g = go (admit_number b t w g) refl
    where
      go : (n : ℕ) → admit_number b t w g ≡ n → Outcome d b x (admit t w g)
      go zero e =
          taken (none_given (same_admit R.agree t w g) e) s
          (subst (λ c. Runs d s c (go_on d x b (admit t w g))) (sym (ap (λ n. (admitted_if n b t w g).board) e)) (runs_admitted R t w g e))
      go (suc n) e = refused (some_given n (same_admit R.agree t w g) e) (ap (λ n. (admitted_if n b t w g).board) e)

  close_step : (lent : ℕ) → Outcome d b x (close lent)
  unfolding lets_through board_after ticket_named closed closed_if closed_with go_on
  close_step lent = go (close_number b lent) refl
    where
      go : (n : ℕ) → close_number b lent ≡ n → Outcome d b x (close lent)
      go zero e =
          taken (none_given (same_close R.agree lent) e) (suc s)
          (subst (λ c. Runs d (suc s) c (go_on d x b (close lent))) (sym (ap (λ n. (closed_if n b).board) e))
          (runs_closed R lent (closed b lent).ticket e (ap (λ n. (closed_if n b).ticket) e)))
      go (suc n) e = refused (some_given n (same_close R.agree lent) e) (ap (λ n. (closed_if n b).board) e)

  withdraw_step : (t : ℕ) → Outcome d b x (withdraw t)
  unfolding lets_through board_after withdrawn withdrawn_if go_on
  withdraw_step t = go (withdraw_number b t) refl
    where
      go : (n : ℕ) → withdraw_number b t ≡ n → Outcome d b x (withdraw t)
      go zero e =
          taken (none_given (same_withdraw R.agree t) e) s
          (subst (λ c. Runs d s c (record { first = c; day = through d x.day (withdraw t); named = [] })) (sym (ap (λ n. (withdrawn_if n b t).board) e))
          (runs_withdrawn R t))
      go (suc n) e = refused (some_given n (same_withdraw R.agree t) e) (ap (λ n. (withdrawn_if n b t).board) e)

  pub step : (c : Call) → Outcome d b x c
  step (admit t w g) = admit_step t w g
  step (close lent) = close_step lent
  step (withdraw t) = withdraw_step t

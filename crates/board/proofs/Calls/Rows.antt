-- What the rows say of a call that they let through.
use mathlib.Core.Path.{◌≡◌, refl}
use mathlib.Core.Bool.{Bool, true, false, ◌&&◌, true≢false}
use mathlib.Core.List.{List, ◌∷◌}
use mathlib.Core.Option.{Option, none, some}
use Prim.Native.Nat.{ℕ, suc, ◌^◌, ◌≤◌, ◌<◌}
use native.Mathlib.Omega.{arith}
use lib.Dec.{leb}
use borrow.Author.Tests.{leb-true, leb-false, eqb-false, not-false}
use Rattle.lists.proofs.Tests.{and_left, and_right}
use Rattle.rule.specs.Job.{Job, with_ticket}
use Rattle.board.specs.Limits.{longest_laxity, most_in_slot, places_held, last_slot}
use Rattle.board.specs.Rows.{Row, ◌if◌, first_given, admit_rows, close_rows, not_to_withdraw, withdraw_rows}

-- no row is given: not the first, and none of the others
pub row_passed : (n : ℕ) (g : Bool) (rows : List Row) → first_given (suc n if g ∷ rows) ≡ 0 → (g ≡ false) × (first_given rows ≡ 0)
unfolding first_given ◌if◌
row_passed n true rows h = absurd (omega arith)
row_passed n false rows h = (refl, h)

-- a first row that is not given changes nothing
pub row_skipped : (n : ℕ) (g : Bool) (rows : List Row) → g ≡ false → first_given (n if g ∷ rows) ≡ first_given rows
unfolding first_given ◌if◌
row_skipped n true rows h = absurd (true≢false h)
row_skipped n false rows h = refl

pub record Admits (slot highest in_slot depth ticket laxity grade : ℕ) : Type 0 where
  pub going : slot ≡ suc last_slot → ⊥
  pub above : highest < ticket
  pub some_laxity : 1 ≤ laxity
  pub short : laxity ≤ longest_laxity
  pub graded : grade < 2 ^ depth
  pub room : in_slot < most_in_slot

pub record Closes (slot lent : ℕ) : Type 0 where
  pub going : slot ≡ suc last_slot → ⊥
  pub long : places_held ≤ lent

-- the job that is taken off
pub record Withdraws (slot : ℕ) (waiting : List Job) (ticket : ℕ) : Type 0 where
  pub going : slot ≡ suc last_slot → ⊥
  pub taken_off : Job
  pub found : with_ticket ticket waiting ≡ some taken_off
  pub older : taken_off.admitted ≡ slot → ⊥

module _ (slot highest in_slot depth ticket laxity grade : ℕ) where
  pub admits : first_given (admit_rows slot highest in_slot depth ticket laxity grade) ≡ 0 → Admits slot highest in_slot depth ticket laxity grade
  unfolding admit_rows
  admits h =
      let three = row_passed 2 _ _ h in
      let four = row_passed 3 _ _ three.1 in
      let five = row_passed 4 _ _ four.1 in
      let six = row_passed 5 _ _ five.1 in
      let seven = row_passed 6 _ _ six.1 in
      let lax : (leb 1 laxity && leb laxity longest_laxity) ≡ true = not-false _ five.0 in
      record {
        going = eqb-false slot (suc last_slot) three.0;
        above = leb-false ticket highest four.0;
        some_laxity = leb-true 1 laxity (and_left (leb 1 laxity) (leb laxity longest_laxity) lax);
        short = leb-true laxity longest_laxity (and_right (leb 1 laxity) (leb laxity longest_laxity) lax);
        graded = leb-false (2 ^ depth) grade six.0;
        room = leb-false most_in_slot in_slot seven.0;
      }

pub closes : (slot lent : ℕ) → first_given (close_rows slot lent) ≡ 0 → Closes slot lent
unfolding close_rows
closes slot lent h =
    let three = row_passed 2 _ _ h in
    let eight = row_passed 7 _ _ three.1 in
    record {
      going = eqb-false slot (suc last_slot) three.0;
      long = leb-true places_held lent (not-false _ eight.0);
    }

pub withdraws : (slot : ℕ) (waiting : List Job) (ticket : ℕ) → first_given (withdraw_rows slot waiting ticket) ≡ 0 → Withdraws slot waiting ticket
unfolding withdraw_rows not_to_withdraw
withdraws slot waiting ticket h =
    let three = row_passed 2 _ _ h in
    go (with_ticket ticket waiting) refl (eqb-false slot (suc last_slot) three.0) (row_passed 16 _ _ three.1).0
  where
    go : (o : Option Job) → with_ticket ticket waiting ≡ o → (slot ≡ suc last_slot → ⊥) → not_to_withdraw slot o ≡ false → Withdraws slot waiting ticket
    go none e going n = absurd (true≢false n)
    go (some r) e going n = record { going = going; taken_off = r; found = e; older = eqb-false r.admitted slot n }

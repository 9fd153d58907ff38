-- What reading answers: 01's number, or values.
use Rattle.std.specs.Prelude.{[], ◌∷◌, ℕ, zero, suc, Result as Tried, Ok, Err}
use Rattle.std.proofs.Math.Option.{Option, none, some}
use Rattle.board.specs.Rows.{Row, first_given}
use Rattle.board.specs.declared.refusal.Refusal.{Refusal}
use Rattle.board.specs.Refusals.{number_of}

-- 01's number, 0 for none, and the values
abbrev pub Result : Type 0 → Type 0
Result A = ℕ × Option A

-- the same of what code answers: a value of the code's, which means this, or the row that refuses
abbrev pub answer_as : {A B : Type 0} → (A → B) → Tried A Refusal → Result B
answer_as f (Ok a) = (0, some (f a))
answer_as f (Err r) = (number_of r, none)

-- the values where no row is given, which is number 0; else the row's number
unfoldable pub result : {A : Type 0} → ℕ → A → Result A
result zero a = (0, some a)
result (suc n) a = (suc n, none)

-- the values, unless this row is given
unfoldable pub unless : {A : Type 0} → Row → A → Result A
unless r a = result (first_given (r ∷ [])) a

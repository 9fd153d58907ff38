-- The number of a refusal is not 0, and that of a result is 0 where it is none.
use Rattle.std.proofs.Common.{◌≡◌, ◌≢◌, ℕ, refl, Bool, true, false, arith}
use Rattle.std.specs.Prelude.{Result, Ok, Err, is_err}
use Rattle.board.specs.declared.refusal.Refusal.{Refusal}
use Rattle.board.specs.Refusals.{number_of, refusal_number}

pub some_number : (r : Refusal) → number_of r ≡ 0 → ⊥
some_number r e = grind arith

pub refused_number : {A : Type 0} (r : Result A Refusal) → is_err r ≡ true → refusal_number r ≡ 0 → ⊥
refused_number (Ok x) e = cc
refused_number (Err r) e = some_number r

pub taken_number : {A : Type 0} (r : Result A Refusal) → is_err r ≡ false → refusal_number r ≡ 0
taken_number (Ok x) e = refl
taken_number (Err r) e = cc

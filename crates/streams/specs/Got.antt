-- What a read gave.
use Rattle.std.specs.Prelude.{ℕ, ◌≤◌, Option, Result, IfOk, IfSome}
use Rattle.streams.specs.declared.failure.Failure.{Failure}

-- bytes are at least one, and no more than there was room for
abbrev pub Within : Result (Option ℕ) Failure → (room : ℕ) → Type 0
Within got room = IfOk got (λ some. IfSome some (λ n. (1 ≤ n) × (n ≤ room)))

-- What `counted` is in each of the two refusals; where none is given, board's `taken` says it.
use mathlib.Core.Path.{◌≡◌}
use Prim.Native.Nat.{ℕ, ◌≤◌, ◌<◌}
use borrow.Author.Tests.{lt-leb, le-leb}
use Rattle.board.specs.declared.Tally.{Tally}
use Rattle.board.specs.Rows.{◌if◌, first_given}
use Rattle.board.specs.Tally.{tally_kinds, tally_grades, tally_most, count_at, tally_number, counted_if, counted}
use Rattle.board.proofs.Tallies.CountAt.{Cell}

pub no_such_kind : (t : Tally) (k g : ℕ) → tally_kinds ≤ k → record { refusal = 9; tally = t } ≡ counted t k g
unfolding counted counted_if tally_number first_given ◌if◌
no_such_kind t k g h = simp (le-leb tally_kinds k h)

pub no_such_grade : (t : Tally) (k g : ℕ) → k < tally_kinds → tally_grades ≤ g → record { refusal = 9; tally = t } ≡ counted t k g
unfolding counted counted_if tally_number first_given ◌if◌
no_such_grade t k g i h = simp (lt-leb tally_kinds k i, le-leb tally_grades g h)

pub count_full : (t : Tally) (k g : ℕ) → Cell k g → tally_most ≤ count_at t k g → record { refusal = 10; tally = t } ≡ counted t k g
unfolding counted counted_if tally_number first_given ◌if◌
count_full t k g c h = simp (lt-leb tally_kinds k c.kind, lt-leb tally_grades g c.grade, le-leb tally_most (count_at t k g) h)

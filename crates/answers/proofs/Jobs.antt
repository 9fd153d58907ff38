-- Laws of the lines of jobs given up.
use mathlib.Core.Path.{◌≡◌, refl}
use mathlib.Core.List.{List, [], ◌∷◌, ◌++◌}
use Prim.Native.Nat.{ℕ, ◌+◌, ◌≤◌, ◌<◌}
use native.Mathlib.Numerals.{add-one}
use native.Mathlib.Omega.{arith}
use lib.ListN.{length, get_or, drop, drop_of_length-le}
use lib.Seq.{drop-cons}
use Rattle.lines.specs.Bytes.{letter_G}
use Rattle.lines.specs.Printing.{printed}
use Rattle.lines.specs.Output.{printed_given_up}
use Rattle.answers.specs.Printed.{jobs_of}

module _ (k : ℕ) (T G : List ℕ) (i : ℕ) where
  -- the line of the i-th job, and those behind it
  pub next_line : i < length T → i < length G
      → printed_given_up k (jobs_of (drop i T) (drop i G))
      ≡ printed letter_G (k ∷ get_or T i 0 ∷ get_or G i 0 ∷ []) ++ printed_given_up k (jobs_of (drop (i + 1) T) (drop (i + 1) G))
  unfolding printed_given_up jobs_of
  next_line h j = rw (drop-cons T i 0 h, drop-cons G i 0 j, add-one)

  pub no_line : length T ≤ i → printed_given_up k (jobs_of (drop i T) (drop i G)) ≡ []
  unfolding printed_given_up jobs_of
  no_line h = rw (drop_of_length-le T h)

-- as many as there are tickets
pub jobs_length : (T G : List ℕ) → length G ≡ length T → length (jobs_of T G) ≡ length T
unfolding jobs_of
jobs_length [] G e = refl
jobs_length (t ∷ T) [] e = absurd (omega arith)
jobs_length (t ∷ T) (g ∷ G) e = omega (arith, jobs_length T G (omega arith))

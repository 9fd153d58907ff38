-- Numbers behind commas, one after the other.
use mathlib.Core.List.{List, [], ◌∷◌, ◌++◌}
use mathlib.Core.Path.{◌≡◌}
use Prim.Native.Nat.{ℕ, ◌+◌, ◌≤◌, ◌<◌}
use native.Mathlib.Numerals.{add-one}
use lib.ListN.{length, drop, get_or, drop_of_length-le}
use lib.Seq.{drop-cons}
use Rattle.lines.specs.Bytes.{comma, line_end}
use Rattle.lines.specs.Printing.{decimal, with_commas}

-- the numbers from the i-th on
pub next_number : (ns : List ℕ) (i : ℕ) → i < length ns → with_commas (drop i ns) ≡ comma ∷ (decimal (get_or ns i 0) ++ with_commas (drop (i + 1) ns))
unfolding with_commas
next_number ns i h = rw (drop-cons ns i 0 h, add-one)

pub no_number : (ns : List ℕ) (i : ℕ) → length ns ≤ i → with_commas (drop i ns) ≡ line_end ∷ []
unfolding with_commas
no_number ns i h = rw (drop_of_length-le ns h)

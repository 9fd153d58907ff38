-- Laws of the tally's lines that are left to be printed.
use mathlib.Core.List.{[], ◌++◌}
use mathlib.Core.Path.{◌≡◌, ap}
use Prim.Native.Nat.{ℕ, suc, ◌+◌, ◌-◌, ◌≤◌, ◌<◌}
use native.Mathlib.Numerals.{add-one}
use native.Mathlib.Omega.{arith}
use Rattle.board.specs.declared.Tally.{Tally}
use Rattle.lines.specs.Output.{tally_line, printed_tally}

-- what is left of the tally, a line less
pub tally_next : (n g : ℕ) (t : Tally) → g < n
    → printed_tally (n - g) g t ≡ tally_line g t ++ printed_tally (n - (g + 1)) (g + 1) t
unfolding printed_tally
tally_next n g t h =
    let e : n - g ≡ suc (n - (g + 1)) = omega arith in
    rw (e, add-one)

pub tally_done : (n g : ℕ) (t : Tally) → n ≤ g → printed_tally (n - g) g t ≡ []
unfolding printed_tally
tally_done n g t h =
    let e : n - g ≡ 0 = omega arith in
    ap (λ (k : ℕ). printed_tally k g t) e

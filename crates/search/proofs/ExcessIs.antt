-- The excess of a laxity as the code has it: a difference of two numbers that fit an i32.
use Rattle.std.proofs.Common.{◌≡◌, ℕ, ◌^◌, ◌<◌, pos, ◌-ℤ◌, to_z, of_z, w32, FitsSigned, ap₂, arith}
use Rattle.std.proofs.lemmas.Int.{ints}
use mir.Facts.{to_z-of_z}
use Rattle.smallest.proofs.Signed.{signed}

pub excess_is : (a b : ℕ) → a < 2 ^ 31 → b < 2 ^ 31 → to_z w32 (of_z w32 (to_z w32 a -ℤ to_z w32 b)) ≡ pos a -ℤ pos b
excess_is a b h k =
    let same : to_z w32 a -ℤ to_z w32 b ≡ pos a -ℤ pos b = ap₂ ◌-ℤ◌ (signed a h) (signed b k) in
    let fits : FitsSigned w32 (pos a -ℤ pos b) = omega (arith, ints) in
    rw same (to_z-of_z {w = w32} fits)

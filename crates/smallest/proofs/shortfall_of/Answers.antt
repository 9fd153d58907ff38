-- None where there are no jobs, else the excess's.
use Rattle.std.proofs.Common.{◌≡◌, refl, ◌∙◌, rules, to_z, of_z, w32}
use mir.Facts.{to_z-of_z}
use Rattle.rule.specs.Shortfall.{below_zero}
use Rattle.smallest.proofs.Signed.{size_of_min}
use Rattle.smallest.proofs.shortfall_of.Goals as goal

pub returns-in-Some : goal.returns-in-Some
returns-in-Some c =
    let x = c.in-Some.b.excess in
    let e : to_z w32 (of_z w32 x) ≡ x = to_z-of_z {w = w32} {z = x} (search rules) in
    let m : to_z w32 (of_z w32 c.min.result) ≡ c.min.result = to_z-of_z {w = w32} {z = c.min.result} (record { sfits = c.min.type_inv }) in
    rw c.in-Some.is (c.unsigned_abs.ensures.value ∙ rw (m, c.min.ensures.value, e) (size_of_min x))

pub returns-in-None : goal.returns-in-None
unfolding below_zero
returns-in-None c = rw c.in-None.is refl

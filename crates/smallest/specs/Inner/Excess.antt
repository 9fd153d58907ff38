-- The smallest excess of some jobs, as the search keeps it.
use Rattle.std.specs.Prelude.{Bool, true, Option, Some, None, ℤ}
use Rattle.std.specs.Int.Signed.{lt_z}
use Rattle.std.proofs.Math.Option.{Option as Optional, none, some}
use Rattle.smallest.specs.declared.Best.{Best}

-- the smallest excess that it tells, if there are jobs
abbrev pub smallest_in : Option Best → Optional ℤ
smallest_in None = none
smallest_in (Some b) = some b.excess

-- whether an excess is the first, or smaller than the best so far
abbrev pub improves : ℤ → Option Best → Bool
improves x None = true
improves x (Some b) = lt_z x b.excess

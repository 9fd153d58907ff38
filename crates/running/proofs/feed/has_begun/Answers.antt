use mathlib.Core.Path.{◌≡◌, sym, ap}
use mathlib.Core.Bool.{not}
use native.Mathlib.Omega.{arith}
use lib.Dec.{eqb}
use lib.ListN.{length, take}
use lib.Seq.{length-take-le}
use Rattle.lines.specs.Reading.{longest_line}
use Rattle.lines.specs.Machine.{partial_room}
use Rattle.cutting.specs.Cut.{partial_bytes}
use Rattle.cutting.proofs.Known.{partial_length}
use Rattle.running.proofs.feed.has_begun.Goals as goal

pub returns : goal.returns
unfolding partial_bytes partial_room longest_line
returns c =
    let h = c.args.partial in
    ap (λ n. not (eqb n 0)) (sym (length-take-le h.len h.bytes (omega (arith, c.requires, partial_length h _ c.well_formed.0))))

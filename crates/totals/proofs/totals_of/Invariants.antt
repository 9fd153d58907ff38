use mathlib.Core.Path.{◌≡◌}
use Prim.Native.Nat.{◌*◌, ◌^◌, ◌≤◌}
use lib.ListN.{take}
use Rattle.lines.specs.Sheet.{number_baked, number_given_up}
use Rattle.page.specs.Pages.{page_of}
use Rattle.totals.proofs.totals_of.Given as goal

abbrev pub invariant-loop-f : goal.invariant-loop-f
invariant-loop-f l =
    (l.baked ≤ l.f-index)
    × (l.listed ≤ l.f-index * 2 ^ 32)
    × (l.baked ≡ number_baked (take l.f-index (page_of l.p)))
    × (l.listed ≡ number_given_up (take l.f-index (page_of l.p)))

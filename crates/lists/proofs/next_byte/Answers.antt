use Rattle.std.proofs.Common.{arith, ap, ◌+◌, ◌∙◌}
use Rattle.lists.proofs.Before.{before_past, next_place}
use Rattle.lists.proofs.next_byte.Goals as goal

pub returns-in-Some : goal.returns-in-Some
returns-in-Some c =
    let a = c.args in
    ap (a.from +◌) (c.unwrap_or.ensures ∙ next_place a.byte a.from a.bytes.now _ _ c.in-Some.ensures.lookup.0.2 c.place_of.ensures)

pub returns-in-None : goal.returns-in-None
returns-in-None c = omega (arith, before_past c.args.byte c.args.bytes.now c.args.from, c.in-None.ensures.lookup.0)

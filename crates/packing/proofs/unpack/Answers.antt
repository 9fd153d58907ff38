-- After i turns the arrays have the first i places.
use Rattle.std.proofs.Common.{refl, ap, ◌∙◌, arith, rules}
use Rattle.board.specs.Limits.{places_held}
use Rattle.packing.specs.Inner.Packed.{places_in, board_in}
use Rattle.packing.proofs.Moving.{unpacked_more, unpacked_all}
use Rattle.packing.proofs.unpack.Goals as goal

pub loop-i-init : goal.loop-i-init
unfolding places_held places_in
loop-i-init c =
    record {
      head = refl;
      places =
          record {
            full = search rules;
            used = c.min-i-end.ensures;
            along = omega arith;
            long_keys = refl;
            long_tickets = refl;
            long_admitted = refl;
            exact = refl;
          };
    }

pub loop-i-preserved : goal.loop-i-preserved
loop-i-preserved c =
    record { head = c.loop-i.invariant.head; places = unpacked_more c.loop-i.invariant.places c.key.result c.key.ensures c.loop-i-test.true }

pub returns : goal.returns
returns c =
    let p = c.loop-i.packed in
    ap (λ h. board_in h p.keys p.tickets p.admitted) c.loop-i.invariant.head ∙ unpacked_all c.loop-i.invariant.places c.loop-i-test.false

-- With the bytes that are left added, the line is the whole one.
use mathlib.Core.Path.{sym, ap, ◌∙◌}
use lib.ListN.{drop_of_length-le}
use Rattle.cutting.specs.Cut.{partial_bytes, extend_all}
use Rattle.cutting.proofs.Extending.{extend_next}
use Rattle.cutting.proofs.Partial.extend.Goals as goal

pub loop-b-preserved : goal.loop-b-preserved
loop-b-preserved c =
    record {
      line = extend_next c.args.bytes.now c.loop-b.b-index _ _ c.loop-b-test.true c.push.ensures.line ∙ c.loop-b.invariant.line;
      few = λ h. c.push.ensures.few (c.loop-b.invariant.few h);
    }

pub returns-clause-line : goal.returns-clause-line
unfolding extend_all
returns-clause-line c =
    sym (ap (extend_all (partial_bytes c.loop-b.self)) (drop_of_length-le c.args.bytes.now c.loop-b-test.false)) ∙ c.loop-b.invariant.line

use mathlib.Core.Path.{ap, ◌∙◌}
use mathlib.Core.Bool.{◌&&◌}
use Prim.Native.Nat.{◌+◌}
use lib.ListN.{drop}
use Rattle.lists.specs.Select.{every}
use Rattle.board.specs.Held.{blank}
use Rattle.board.specs.Sound.{is_blank}
use Rattle.soundness.proofs.Steps.{every_step, every_done}
use Rattle.soundness.proofs.all_blank.Goals as goal

pub loop-x-preserved : goal.loop-x-preserved
loop-x-preserved c =
    let l = c.args.places.now in
    ap (λ t. c.loop-x.blank && t && every is_blank (drop (c.loop-x.x-index + 1) l)) c.is_blank-blank.ensures
    ∙ every_step is_blank l c.loop-x.x-index c.loop-x.blank blank c.loop-x-test.true
    ∙ c.loop-x.invariant

pub returns : goal.returns
returns c = every_done is_blank c.args.places.now c.loop-x.x-index c.loop-x.blank c.loop-x-test.false ∙ c.loop-x.invariant

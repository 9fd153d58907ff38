-- Both are those of the closings passed.
use Rattle.std.proofs.Common.{refl, ap, add-one, arith}
use lib.Seq.{get_or-take}
use Rattle.lists.specs.Select.{how_many}
use Rattle.lines.specs.Sheet.{number_baked, number_given_up}
use Rattle.page.specs.declared.Figures.{Figures}
use Rattle.page.proofs.OnPage.{no_figures}
use Rattle.totals.proofs.Sums.{baked_next, given_up_next}
use Rattle.totals.proofs.totals_of.Goals as goal

pub loop-f-init : goal.loop-f-init
unfolding number_baked how_many number_given_up
loop-f-init c = (omega arith, omega arith, refl, refl)

pub loop-f-preserved : goal.loop-f-preserved
loop-f-preserved c =
    let p = c.args.p.now in
    let i = c.loop-f.f-index in
    let same = get_or-take c.closing_count-count.result p.closings i no_figures (omega arith) in
    let ticket = ap (λ (f : Figures). f.ticket) same in
    let listed = ap (λ (f : Figures). f.listed) same in
    let baked = baked_next p i (omega arith) in
    let given_up = given_up_next p i (omega arith) in
    rw add-one
    (omega arith, omega arith, omega (arith, baked), omega (arith, given_up))

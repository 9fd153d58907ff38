-- `print_last`: a page with a closing that is not full.
use Rattle.std.proofs.Common.{◌≡◌, length, sym, ◌∙◌, arith}
use Rattle.buffer.proofs.Fitting.{put_nil_if, put_as_if}
use Rattle.page.specs.Pages.{page_of}
use Rattle.printers.proofs.LastPage.{last_none, last_full, last_begun}
use Rattle.printers.proofs.print_last.Goals as goal
use Rattle.printers.proofs.print_last.Goals.{then-count-eq0-via-then-count-eq0, then-count-eq0-via-else-count-eq0+then-is_full}

pub returns-then-count-eq0 : goal.returns-then-count-eq0
returns-then-count-eq0 c =
    let p = c.args.page.now in
    elim c.then-count-eq0.branch [
      | then-count-eq0-via-then-count-eq0 w ↦ put_nil_if _ _ _ _ _ (last_none (page_of p) (omega arith))
      | then-count-eq0-via-else-count-eq0+then-is_full w ↦ put_nil_if _ _ _ _ _ (last_full (page_of p) (sym w.is_full.ensures ∙ w.if-is_full.true))
    ]

pub returns : goal.returns
returns c =
    let p = c.args.page.now in
    let some : length (page_of p) ≡ 0 → ⊥ = λ z. c.if-count-eq0.false (omega (arith, z)) in
    put_as_if (last_begun (page_of p) (sym c.is_full.ensures ∙ c.if-is_full.false) some) c.print_page.ensures

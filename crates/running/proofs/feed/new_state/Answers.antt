-- `new_state`: no board, nothing counted, no closing on the page, no byte of a line.
use mathlib.Core.List.{[]}
use mathlib.Core.Option.{none}
use mathlib.Core.Path.{◌≡◌, refl, ap, ap₂, ◌∙◌}
use native.Mathlib.Omega.{arith}
use Rattle.board.specs.declared.Tally.{Tally}
use Rattle.lines.specs.Session.{new_session}
use Rattle.lines.specs.Printers.{Printer, new_printer}
use Rattle.lines.specs.Machine.{new_machine}
use Rattle.cutting.specs.Cut.{partial_bytes}
use Rattle.page.specs.Pages.{page_of, new_page}
use Rattle.printers.specs.declared.Program.{Program}
use Rattle.printers.specs.declared.Program.TheVariants.{Board, Sheet}
use Rattle.printers.specs.Programs.{program_of, printer_by, printer_of}
use Rattle.session.specs.Inner.Days.{session_of, GoodDay}
use Rattle.running.specs.Inner.Machines.{machine_of}
use Rattle.running.proofs.Feeding.Along.{reading}
use Rattle.running.proofs.feed.new_state.Goals as goal

-- what each program knows before the first answer
new_known : (g : Program) → printer_by g 1 new_page ≡ new_printer (program_of g)
unfolding printer_by program_of new_printer page_of new_page
new_known Board = refl
new_known Sheet = refl

pub returns : goal.returns
unfolding machine_of session_of printer_of partial_bytes new_machine new_session
returns c =
    let program = c.args.program in
    record {
      machine = rw c.no_bytes.ensures
          (ap₂ (λ (t : Tally) (p : Printer). reading (record { board = none; tally = t }) p [])
          c.zero.ensures
          (ap (printer_by program 1) c.new.ensures ∙ new_known program));
      number = refl;
    }

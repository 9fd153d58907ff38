-- The two programs and what their printers know, as the definitions name them.
use Rattle.std.specs.Prelude.{ℕ}
use Rattle.lines.specs.Printers.{Program, board_program, sheet_program, Printer, numbering, filling}
use Rattle.page.specs.declared.Page.{Page}
use Rattle.page.specs.Pages.{page_of}
use Rattle.printers.specs.declared.Program.{Program as ProgramRun}
use Rattle.printers.specs.declared.Program.TheVariants.{Board, Sheet}
use Rattle.printers.specs.declared.Printer.{Printer as PrinterHeld}

unfoldable pub program_of : ProgramRun → Program
program_of Board = board_program
program_of Sheet = sheet_program

-- the board's program knows the number of the line, the sheet's the page
unfoldable pub printer_by : ProgramRun → (number : ℕ) → Page → Printer
printer_by Board n p = numbering n
printer_by Sheet n p = filling (page_of p)

unfoldable pub printer_of : PrinterHeld → Printer
printer_of k = printer_by k.program k.number k.page

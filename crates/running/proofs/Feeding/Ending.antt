-- Laws of the end of input: the last line, and what comes behind it.
use mathlib.Core.List.{[], ◌∷◌, ◌++◌}
use mathlib.Core.Path.{◌≡◌, sym, ap, ap₂, ◌∙◌}
use Prim.Native.Nat.{ℕ, ◌+◌, ◌≤◌}
use native.Mathlib.Omega.{arith}
use borrow.Author.Tests.{eq-eqb, ne_eqb}
use lib.Dec.{eqb}
use lib.ListN.{length}
use Rattle.lists.proofs.Tests.{cond_true, cond_false}
use Rattle.lines.specs.Bytes.{Bytes}
use Rattle.lines.specs.Session.{Session, session_after}
use Rattle.lines.specs.Output.{at_end}
use Rattle.lines.specs.Printers.{Printer, last_page, answers_printed, printer_after, end_printed}
use Rattle.lines.specs.Machine.{Machine, line_step, last_answers, last_session, last_printer, printed_at_end}
use Rattle.lines.proofs.Answers.{printed_none}
use Rattle.buffer.specs.Puts.{PutWithin}
use Rattle.buffer.proofs.Pieces.{put_behind, put_as}
use Rattle.answers.specs.Printed.{answer_room}
use Rattle.page.specs.Pages.{page_of}
use Rattle.printers.specs.declared.Program.{Program}
use Rattle.printers.specs.declared.Program.TheVariants.{Board, Sheet}
use Rattle.printers.specs.declared.Printer.{Printer as PrinterHeld}
use Rattle.printers.specs.Programs.{printer_by, printer_of}
use Rattle.session.specs.Inner.Days.{session_of}
use Rattle.running.specs.Inner.Days.{DayAfter, Given}
use Rattle.running.specs.Inner.Machines.{PutAt}

module _ (m : Machine) where
  -- what the last line prints
  abbrev pub last_printed : Bytes
  last_printed = answers_printed m.printer (last_answers m)

  module _ (h : length m.partial ≡ 0) where
    -- no line has begun
    pub none_printed : last_printed ≡ []
    unfolding last_answers
    none_printed =
        ap (answers_printed m.printer) (cond_true (eqb (length m.partial) 0) [] ((line_step m).answer ∷ []) (eq-eqb (length m.partial) 0 h))
        ∙ printed_none m.printer

    pub none_after : last_session m ≡ m.session
    unfolding last_session
    none_after = cond_true (eqb (length m.partial) 0) m.session (session_after m.session (line_step m)) (eq-eqb (length m.partial) 0 h)

    pub none_known : last_printer m ≡ m.printer
    unfolding last_printer
    none_known = cond_true (eqb (length m.partial) 0) m.printer (printer_after m.printer (line_step m).answer) (eq-eqb (length m.partial) 0 h)

  module _ (h : length m.partial ≡ 0 → ⊥) where
    -- one has
    pub begun_printed : last_printed ≡ answers_printed m.printer ((line_step m).answer ∷ [])
    unfolding last_answers
    begun_printed = ap (answers_printed m.printer) (cond_false (eqb (length m.partial) 0) [] ((line_step m).answer ∷ []) (ne_eqb (length m.partial) 0 h))

    pub begun_after : last_session m ≡ session_after m.session (line_step m)
    unfolding last_session
    begun_after = cond_false (eqb (length m.partial) 0) m.session (session_after m.session (line_step m)) (ne_eqb (length m.partial) 0 h)

    pub begun_known : last_printer m ≡ printer_after m.printer (line_step m).answer
    unfolding last_printer
    begun_known = cond_false (eqb (length m.partial) 0) m.printer (printer_after m.printer (line_step m).answer) (ne_eqb (length m.partial) 0 h)

  -- behind it comes what this printer prints at the end of this session
  pub at_end_printed : (p : Printer) (s : Session) → p ≡ last_printer m → s ≡ last_session m → printed_at_end m ≡ last_printed ++ end_printed p s
  unfolding printed_at_end
  at_end_printed p s e f = ap₂ (λ (q : Printer) (t : Session). last_printed ++ end_printed q t) (sym e) (sym f)

-- behind the last line the board's program prints the tally, the sheet's its last page
module _ (k : PrinterHeld) (s : Session) where
  pub board_end : k.program ≡ Board → end_printed (printer_of k) s ≡ at_end s.board s.tally
  unfolding end_printed printer_of printer_by
  board_end e = ap (λ (g : Program). end_printed (printer_by g k.number k.page) s) e

  pub sheet_end : k.program ≡ Sheet → end_printed (printer_of k) s ≡ last_page (page_of k.page)
  unfolding end_printed printer_of printer_by
  sheet_end e = ap (λ (g : Program). end_printed (printer_by g k.number k.page) s) e

-- the last line printed, and behind it what comes at the end
pub ended : (m : Machine) {out mid out' : Bytes} {at : ℕ} {r : DayAfter} {n end : ℕ} → at + answer_room + answer_room ≤ length out → n ≤ answer_room
    → Given (last_printed m) (last_session m) (last_printer m) out at r mid
    → PutWithin n (end_printed (printer_of r.printer) (session_of r.day)) mid r.at end out'
    → PutAt (printed_at_end m) out at end out'
unfolding answer_room
ended m {out} {mid} {out'} {at} {r} {n} {end} room few g p =
    let whole : PutWithin answer_room (last_printed m) out at r.at mid = record { end = g.end; within = g.within; bytes = g.bytes } in
    let both = put_as (at_end_printed m (printer_of r.printer) (session_of r.day) g.printer g.session) (put_behind (omega (arith, room)) whole p) in
    record { end = both.end; fits = omega (arith, both.within, few, room); bytes = both.bytes }

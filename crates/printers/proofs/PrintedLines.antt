-- What the board's program prints of an answer, and what its printer holds after it.
use Rattle.std.proofs.Common.{◌≡◌, ℕ, suc, Bool, true, false, cond, List, [], ◌∷◌, length, sym, ap, ◌∙◌, append-nil, arith}
use Rattle.lines.specs.Bytes.{Bytes}
use Rattle.lines.specs.Output.{printed_answer, printed_answers}
use Rattle.lines.specs.Printers.{Printer, numbering, answers_printed, printer_after}
use Rattle.buffer.specs.Puts.{PutIf}
use Rattle.buffer.proofs.Fitting.{put_as_if}
use Rattle.answers.specs.declared.Answer.{Answer as AnswerHeld}
use Rattle.answers.specs.Printed.{answer_of, answer_room}
use Rattle.printers.specs.declared.Program.{Program}
use Rattle.printers.specs.declared.Program.TheVariants.{Board}
use Rattle.printers.specs.declared.Printer.{Printer as PrinterHeld}
use Rattle.printers.specs.Programs.{printer_by, printer_of}
use Rattle.printers.specs.Prints.{next_number, held_by, held_after, PrintedIf}

module _ (k : PrinterHeld) (a : AnswerHeld) (T G : List ℕ) (e : k.program ≡ Board) where
  lines_known : (n : ℕ) → printer_by k.program n k.page ≡ numbering n
  unfolding printer_by
  lines_known n = ap (λ (g : Program). printer_by g n k.page) e

  lines_printed : answers_printed (printer_of k) (answer_of a T G ∷ []) ≡ printed_answer k.number (answer_of a T G)
  unfolding answers_printed printed_answers printer_of
  lines_printed = ap (λ (p : Printer). answers_printed p (answer_of a T G ∷ [])) (lines_known k.number) ∙ append-nil (printed_answer k.number (answer_of a T G))

  lines_held : held_after k a (length T) ≡ record { program = k.program; number = next_number k.number; page = k.page }
  unfolding held_after held_by
  lines_held = ap (λ (g : Program). held_by g k a (length T)) e

  pub printed_lines : {out : Bytes} {at r : ℕ} {out' : Bytes} (f : Bool) (next : ℕ) → next ≡ cond f (next_number k.number) k.number
      → PutIf f answer_room (printed_answer k.number (answer_of a T G)) out at r out'
      → PrintedIf f k a T G out at (record { program = k.program; number = next; page = k.page }) r out'
  unfolding printer_of printer_after next_number
  printed_lines true next h p =
      record {
        put = put_as_if lines_printed p;
        printer = ap (λ (n : ℕ). record { program = k.program; number = n; page = k.page }) h ∙ sym lines_held;
        known = λ few.
            let up : next ≡ suc k.number = omega (arith, h, few) in
            lines_known next ∙ ap numbering up ∙ sym (ap (λ (q : Printer). printer_after q (answer_of a T G)) (lines_known k.number));
      }
  printed_lines false next h p =
      record {
        put = put_as_if lines_printed p;
        printer = ap (λ (n : ℕ). record { program = k.program; number = n; page = k.page }) h;
        known = λ few. ap (λ (n : ℕ). printer_by k.program n k.page) h;
      }

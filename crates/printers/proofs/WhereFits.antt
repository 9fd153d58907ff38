-- An answer printed where it fits: laws of the contract, and what it says there in the definitions' words.
use Rattle.std.proofs.Common.{◌≡◌, ℕ, ◌+◌, ◌^◌, ◌<◌, ◌≤◌, Bool, true, List, [], ◌∷◌, length, sym, ◌∙◌, subst, arith}
use Rattle.lists.proofs.Tests.{cond_true}
use Rattle.lines.specs.Bytes.{Bytes}
use Rattle.lines.specs.Session.{Answer}
use Rattle.lines.specs.Printers.{answers_printed, printer_after}
use Rattle.buffer.specs.Puts.{PutWithin}
use Rattle.buffer.proofs.Fitting.{fits_put}
use Rattle.answers.specs.declared.Answer.{Answer as AnswerHeld}
use Rattle.answers.specs.Printed.{answer_of, answer_room, answer_fits}
use Rattle.answers.specs.Inner.Fits.{Fits}
use Rattle.answers.proofs.Room.{fits_answer}
use Rattle.printers.specs.declared.Program.{Program}
use Rattle.printers.specs.declared.Program.TheVariants.{Board, Sheet}
use Rattle.printers.specs.declared.Printer.{Printer as PrinterHeld}
use Rattle.printers.specs.Programs.{printer_of}
use Rattle.printers.specs.Prints.{next_number, held_by, held_after, PrintedIf}

-- an answer printed at `at` in the buffer, and what is known after it; the line is numbered one further at the most
pub record PrintedBy (k : PrinterHeld) (a : Answer) (out : Bytes) (at : ℕ) (k' : PrinterHeld) (r : ℕ) (out' : Bytes) : Type 0 where
  pub put : PutWithin answer_room (answers_printed (printer_of k) (a ∷ [])) out at r out'
  pub known : printer_of k' ≡ printer_after (printer_of k) a
  pub number : k'.number ≤ k.number + 1

-- the line is numbered one further at the most
numbered : (g : Program) (k : PrinterHeld) (a : AnswerHeld) (l : ℕ) → (held_by g k a l).number ≤ k.number + 1
unfolding held_by next_number
numbered Board k a l = omega arith
numbered Sheet k a l = omega arith

module _ {k : PrinterHeld} {a : AnswerHeld} {T G : List ℕ} {out : Bytes} {at : ℕ} where
  module _ {k' : PrinterHeld} {r : ℕ} {out' : Bytes} where
    -- it fits
    pub printed_fitting : (f : Bool) → f ≡ true → PrintedIf true k a T G out at k' r out' → PrintedIf f k a T G out at k' r out'
    printed_fitting f e p = subst (λ (b : Bool). PrintedIf b k a T G out at k' r out') (sym e) p

    pub printed_by : Fits T G at out → k.number < 2 ^ 63 → PrintedIf (answer_fits (length T) (length G) at (length out)) k a T G out at k' r out'
        → PrintedBy k (answer_of a T G) out at k' r out'
    unfolding held_after
    printed_by f few p =
        let fits = answer_fits (length T) (length G) at (length out) in
        let e : fits ≡ true = fits_answer (length T) (length G) at (length out) f.0 f.1 f.2 in
        record {
          put = fits_put fits e p.put;
          known = p.known (omega arith) ∙ cond_true fits (printer_after (printer_of k) (answer_of a T G)) (printer_of k) e;
          number = rw (p.printer, e) (numbered k.program k a (length T));
        }

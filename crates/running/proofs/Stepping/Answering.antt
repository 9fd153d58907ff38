-- A line answered: a step done on the day, and its answer printed.
use mathlib.Core.Path.{◌≡◌, sym, ap, ◌∙◌}
use mathlib.Core.List.{List, [], ◌∷◌}
use Prim.Native.Nat.{ℕ, ◌+◌, ◌^◌, ◌≤◌, ◌<◌}
use native.Mathlib.Omega.{arith}
use lib.ListN.{length, take}
use lib.Seq.{length-take-le}
use Rattle.board.specs.Limits.{places_held}
use Rattle.lines.specs.Bytes.{Bytes}
use Rattle.lines.specs.Session.{Answer, step}
use Rattle.lines.specs.Printers.{answers_printed, printer_after}
use Rattle.buffer.specs.Puts.{put}
use Rattle.answers.specs.Printed.{answer_room, answer_fits}
use Rattle.answers.specs.Inner.Fits.{Fits}
use Rattle.printers.specs.declared.Printer.{Printer as PrinterHeld}
use Rattle.printers.specs.Programs.{printer_of}
use Rattle.printers.specs.Prints.{PrintedIf}
use Rattle.printers.proofs.WhereFits.{printed_by}
use Rattle.session.specs.declared.Day.{Day}
use Rattle.session.specs.Inner.Days.{session_of, SteppedDay, Did}
use Rattle.running.specs.Inner.Days.{Answered}

-- a step done and its answer printed, with the jobs given up first in two lists that have an entry for every place
module _
    (d : Day) (k : PrinterHeld) (line out : Bytes) (at : ℕ) (r : SteppedDay) (T G : List ℕ)
    (did : Did d (step (session_of d).board line) r T G) (tickets : length T ≡ places_held) (grades : length G ≡ places_held)
  where
    pub answered_by : (p : PrinterHeld) (end : ℕ) (out' : Bytes) → at + answer_room ≤ length out → k.number < 2 ^ 63
        → PrintedIf (answer_fits (length (take r.listed T)) (length (take r.listed G)) at (length out)) k r.answer (take r.listed T) (take r.listed G) out at p end out'
        → Answered d k line out at (record { day = r.day; printer = p; at = end }) out'
    answered_by p end out' room few printed =
        let n = length-take-le r.listed T (omega (arith, did.few, tickets)) in
        let fits : Fits (take r.listed T) (take r.listed G) at out =
        (omega (arith, n, did.few), length-take-le r.listed G (omega (arith, did.few, grades)) ∙ sym n, room)
        in
        let q = printed_by fits few printed in
        let e = ap (λ (x : Answer). answers_printed (printer_of k) (x ∷ [])) did.answer in
        record {
          given = record {
            good = did.good;
            session = did.session;
            printer = q.known ∙ ap (printer_after (printer_of k)) did.answer;
            end = q.put.end ∙ ap (λ (x : Bytes). at + length x) e;
            within = q.put.within;
            bytes = q.put.bytes ∙ ap (put out at) e;
          };
          number = q.number;
        }

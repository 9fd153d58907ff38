-- What the sheet's program prints of an answer, and what its printer holds after it.
use Rattle.std.proofs.Common.{◌≡◌, ℕ, Bool, true, cond, List, [], ◌∷◌, length, sym, refl, ap, ◌∙◌, append-nil}
use mathlib.Core.List.{flat_map}
use Rattle.lines.specs.Bytes.{Bytes}
use Rattle.lines.specs.Session.{Answer}
use Rattle.lines.specs.Sheet.{Figures, page, figures_in, closings_in, sheet_number, is_full, page_after}
use Rattle.lines.specs.Printers.{Printer, filling, page_along, pages_along, answers_printed, printer_after}
use Rattle.buffer.specs.Puts.{PutWithin}
use Rattle.buffer.proofs.Fitting.{put_fits}
use Rattle.buffer.proofs.Pieces.{put_as, put_nil}
use Rattle.answers.specs.declared.Answer.{Answer as AnswerHeld}
use Rattle.answers.specs.Printed.{answer_of, answer_room}
use Rattle.page.specs.declared.Figures.{Figures as FiguresHeld}
use Rattle.page.specs.declared.Page.{Page}
use Rattle.page.specs.declared.HandedOver.{HandedOver}
use Rattle.page.specs.Pages.{figures_held, page_of, handed_over}
use Rattle.page.proofs.Handed.{answer_number}
use Rattle.printers.specs.declared.Program.{Program}
use Rattle.printers.specs.declared.Program.TheVariants.{Sheet}
use Rattle.printers.specs.declared.Printer.{Printer as PrinterHeld}
use Rattle.printers.specs.Programs.{printer_by, printer_of}
use Rattle.printers.specs.Prints.{page_held, held_by, held_after, PrintedIf}
use Rattle.printers.proofs.Closings.{after_one, refused_printed, taken_printed, IsClosing, closing_figures, closing_page}

module _ (k : PrinterHeld) (a : AnswerHeld) (T G : List ℕ) (e : k.program ≡ Sheet) where
  abbrev answer : Answer
  answer = answer_of a T G

  -- the closings on the page before it
  abbrev before : List Figures
  before = page_of k.page

  page_known : (page : Page) → printer_by k.program k.number page ≡ filling (page_of page)
  unfolding printer_by
  page_known page = ap (λ (g : Program). printer_by g k.number page) e

  pages_printed : answers_printed (printer_of k) (answer ∷ []) ≡ pages_along before (figures_in answer)
  unfolding answers_printed printer_of closings_in flat_map
  pages_printed = ap (λ (p : Printer). answers_printed p (answer ∷ [])) (page_known k.page) ∙ ap (pages_along before) (append-nil (figures_in answer))

  pages_held : held_after k a (length T) ≡ record { program = k.program; number = k.number; page = page_held k.page a (length T) }
  unfolding held_after held_by
  pages_held = ap (λ (g : Program). held_by g k a (length T)) e

  printed_pages : {out : Bytes} {at r : ℕ} {out' : Bytes} (page' : Page) → page' ≡ page_held k.page a (length T) → page_of page' ≡ page_along before (figures_in answer)
      → PutWithin answer_room (pages_along before (figures_in answer)) out at r out'
      → PrintedIf true k a T G out at (record { program = k.program; number = k.number; page = page' }) r out'
  unfolding printer_of printer_after
  printed_pages page' held h p =
      record {
        put = put_fits true refl (put_as pages_printed p);
        printer = ap (λ (q : Page). record { program = k.program; number = k.number; page = q }) held ∙ sym pages_held;
        known = λ few. page_known page' ∙ ap filling h ∙ sym (ap (λ (q : Printer). printer_after q answer) (page_known k.page));
      }

  -- an answer that is no closing
  pub printed_no_closing : (out : Bytes) (at : ℕ) → page_held k.page a (length T) ≡ k.page → figures_in answer ≡ [] → PrintedIf true k a T G out at k at out
  unfolding page_along pages_along
  printed_no_closing out at same n =
      printed_pages k.page (sym same) (sym (ap (page_along before) n)) (put_as (ap (pages_along before) n) (put_nil answer_room out at))

-- a closing handed to the page, and what the sheet answers to it
module _
    (k : PrinterHeld) {a : AnswerHeld} {T G : List ℕ} {f : FiguresHeld} {h : HandedOver} (e : k.program ≡ Sheet) (c : IsClosing a T G f)
    (is : h ≡ handed_over k.page f) (after : page_of h.page ≡ page_after (page_of k.page) (figures_held f))
  where
    number : h.refusal ≡ sheet_number (figures_held f)
    unfolding handed_over
    number = ap (λ (r : HandedOver). r.refusal) is ∙ answer_number k.page f (sheet_number (figures_held f))

    printed_closing : {out : Bytes} {at r : ℕ} {out' : Bytes} (bs : Bytes) → pages_along (page_of k.page) (figures_held f ∷ []) ≡ bs → PutWithin answer_room bs out at r out'
        → PrintedIf true k a T G out at (record { program = k.program; number = k.number; page = h.page }) r out'
    printed_closing bs n p =
        let brought = closing_figures c in
        printed_pages k a T G e h.page
        (ap (λ (r : HandedOver). r.page) is ∙ sym (closing_page c k.page))
        (after ∙ sym (ap (page_along (page_of k.page)) brought ∙ after_one (page_of k.page) (figures_held f)))
        (put_as (ap (pages_along (page_of k.page)) brought ∙ n) p)

    -- it is refused
    pub printed_refused : (out : Bytes) (at : ℕ) → (h.refusal ≡ 0 → ⊥) → PrintedIf true k a T G out at (record { program = k.program; number = k.number; page = h.page }) at out
    printed_refused out at r =
        let refused : sheet_number (figures_held f) ≡ 0 → ⊥ = λ z. r (number ∙ z) in
        printed_closing [] (refused_printed (page_of k.page) (figures_held f) refused) (put_nil answer_room out at)

    -- it is taken: the page is printed once it is full
    pub printed_taken : {out : Bytes} {at r : ℕ} {out' : Bytes} → h.refusal ≡ 0 → (b : Bool) → is_full (page_of h.page) ≡ b → PutWithin answer_room (cond b (page (page_of h.page)) []) out at r out'
        → PrintedIf true k a T G out at (record { program = k.program; number = k.number; page = h.page }) r out'
    printed_taken taken b full p =
        printed_closing (cond b (page (page_of h.page)) [])
        (taken_printed (page_of k.page) (figures_held f) (sym number ∙ taken) b (sym (ap is_full after) ∙ full)
        ∙ ap (λ (x : List Figures). cond b (page x) []) (sym after))
        p

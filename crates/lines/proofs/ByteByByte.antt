-- Byte by byte a run is answered as the whole input is, and prints each program's output.
use mathlib.Core.Path.{◌≡◌, refl, sym, ap, ap₂, ◌∙◌}
use mathlib.Core.Bool.{true, false, not, ◌&&◌}
use mathlib.Core.Logic.{◌⊎◌, inl, inr}
use mathlib.Core.List.{List, [], ◌∷◌, ◌++◌, flat_map, append_assoc, append-nil}
use Prim.Native.Nat.{ℕ, suc}
use native.Mathlib.Omega.{arith}
use lib.Dec.{eqb, ltb}
use lib.ListN.{length, take}
use borrow.Author.Tests.{ne_eqb}
use Rattle.lists.specs.Select.{every}
use Rattle.lists.proofs.Tests.{test, and_left, cond_true, cond_false}
use Rattle.lists.proofs.Members.{every_mem, mem_every, every_append}
use Rattle.lines.specs.Bytes.{Bytes, line_end, lines}
use Rattle.lines.specs.Session.{Session, new_session, Answer, Run, step, session_after, run_from, run}
use Rattle.lines.specs.Output.{printed_answers, at_end, output}
use Rattle.lines.specs.Sheet.{Figures, page_slots, figures_in, closings_in, sheet}
use Rattle.lines.specs.Printers.{Program, board_program, sheet_program, whole_output, Printer, numbering, filling, new_printer, page_along, pages_along, answers_printed, printer_after, end_printed}
use Rattle.lines.specs.Machine.{Machine, new_machine, extend, partial_room, line_step, answered_by, after_byte, after_bytes, answers_along, last_answers, last_session, last_printer, printed_along, printed_at_end, ByteByByte}
use Rattle.lines.proofs.Cutting.{one_line, lines_ended, lines_last, lines_none}
use Rattle.lines.proofs.LongLines.{step_first, extend_first}
use Rattle.lines.proofs.PagesAlong.{page_along_append, takes, along_pages}
use Rattle.lines.proofs.Answers.{printer_along, printer_append, printer_after_bytes, printer_at_end, printed_joined}
use Rattle.lines.proofs.Sheets.Fits.{fits}
use Rattle.lines.proofs.ClosingsFit.{closings_fit}

-- answers, and a run behind them
abbrev onto : List Answer → Run → Run
onto first r = record { answers = first ++ r.answers; session = r.session }

-- what the end of input makes of a machine
abbrev ended : Machine → Run
ended m = record { answers = last_answers m; session = last_session m }

-- reading a line of which the bytes l are there
abbrev reading : Session → Printer → Bytes → Machine
reading s i l = record { session = s; printer = i; partial = take partial_room l }

at_last : (s : Session) (i : Printer) (l : Bytes) → one_line l ≡ true → run_from s (lines l) ≡ ended (reading s i l)
unfolding run_from last_answers last_session line_step partial_room
at_last s i [] h = ap (run_from s) lines_none
at_last s i (c ∷ l) h =
    let partial = take partial_room (c ∷ l) in
    let begun = ne_eqb (length partial) 0 (λ z. omega arith) in
    ap (run_from s) (lines_last c l h)
    ∙ sym (ap (λ a. record { answers = a.answer ∷ []; session = session_after s a }) (step_first s.board (c ∷ l)))
    ∙ sym (ap₂ (λ (x : List Answer) (t : Session). record { answers = x; session = t })
    (cond_false (eqb (length partial) 0) [] ((step s.board partial).answer ∷ []) begun)
    (cond_false (eqb (length partial) 0) s (session_after s (step s.board partial)) begun))

along : (s : Session) (i : Printer) (l bs : Bytes) → one_line l ≡ true
    → run_from s (lines (l ++ bs)) ≡ onto (answers_along (reading s i l) bs) (ended (after_bytes (reading s i l) bs))
unfolding answers_along after_bytes answered_by after_byte line_step run_from every partial_room
along s i l [] h = ap (λ (x : Bytes). run_from s (lines x)) (append-nil l) ∙ at_last s i l h
along s i l (b ∷ bs) h = go (test (eqb b line_end)) (λ s i l h. along s i l bs h)
  where
    m : Machine
    m = reading s i l

    Goal : Type 0
    Goal = run_from s (lines (l ++ (b ∷ bs))) ≡ onto (answered_by m b ++ answers_along (after_byte m b) bs) (ended (after_bytes (after_byte m b) bs))

    go : (eqb b line_end ≡ true) ⊎ (eqb b line_end ≡ false)
        → ((s : Session) (i : Printer) (l : Bytes) → one_line l ≡ true
        → run_from s (lines (l ++ bs)) ≡ onto (answers_along (reading s i l) bs) (ended (after_bytes (reading s i l) bs))) → Goal
    go (inl e) ih =
        let a = step s.board l in
        let n = reading (session_after s a) (printer_after i a.answer) [] in
        let here = step_first s.board l in
        let next : after_byte m b ≡ n =
        cond_true (eqb b line_end) (record { session = session_after s (step s.board (take partial_room l)); printer = printer_after i (step s.board (take partial_room l)).answer; partial = [] }) (record { session = s; printer = i; partial = extend b (take partial_room l) }) e
        ∙ ap (λ x. reading (session_after s x) (printer_after i x.answer) []) here
        in
        let said : answered_by m b ≡ a.answer ∷ [] = cond_true (eqb b line_end) ((step s.board (take partial_room l)).answer ∷ []) [] e ∙ ap (λ x. x.answer ∷ []) here in
        ap (run_from s) (lines_ended l bs b h e)
        ∙ ap (onto (a.answer ∷ [])) (ih (session_after s a) (printer_after i a.answer) [] refl)
        ∙ ap₂ (λ (x : List Answer) (k : Machine). onto (x ++ answers_along k bs) (ended (after_bytes k bs))) (sym said) (sym next)
    go (inr e) ih =
        let n = reading s i (l ++ (b ∷ [])) in
        let next : after_byte m b ≡ n =
        cond_false (eqb b line_end) (record { session = session_after s (step s.board (take partial_room l)); printer = printer_after i (step s.board (take partial_room l)).answer; partial = [] }) (record { session = s; printer = i; partial = extend b (take partial_room l) }) e
        ∙ ap (λ (x : Bytes). record { session = s; printer = i; partial = x }) (extend_first b l)
        in
        let said : answered_by m b ≡ [] = cond_false (eqb b line_end) ((step s.board (take partial_room l)).answer ∷ []) [] e in
        ap (λ (x : Bytes). run_from s (lines x)) (sym (append_assoc l (b ∷ []) bs))
        ∙ ih s i (l ++ (b ∷ [])) (every_append (λ c. not (eqb c line_end)) l (b ∷ []) h (ap (λ c. not c && true) e))
        ∙ ap₂ (λ (x : List Answer) (k : Machine). onto (x ++ answers_along k bs) (ended (after_bytes k bs))) (sym said) (sym next)

-- what a program prints of answers, and then at the end
abbrev printed_all : Printer → List Answer → Session → Bytes
printed_all p answers s = answers_printed p answers ++ end_printed (printer_along p answers) s

numbered : (i : ℕ) (answers : List Answer) (s : Session) → end_printed (printer_along (numbering i) answers) s ≡ at_end s.board s.tally
unfolding end_printed printer_along printer_after
numbered i [] s = refl
numbered i (a ∷ answers) s = numbered (suc i) answers s

filled : (p : List Figures) (answers : List Answer) → printer_along (filling p) answers ≡ filling (page_along p (closings_in answers))
unfolding printer_along printer_after closings_in flat_map page_along
filled p [] = refl
filled p (a ∷ answers) = filled (page_along p (figures_in a)) answers ∙ ap filling (sym (page_along_append p (figures_in a) (closings_in answers)))

-- 16 refuses none
taken : (fs : List Figures) → every fits fs ≡ true → every takes fs ≡ true
taken fs h = mem_every takes fs (λ f m. and_left (takes f) (ltb f.ticket 4_294_967_296) (every_mem fits h m))

whole_printed : (g : Program) (input : Bytes) → whole_output g input ≡ printed_all (new_printer g) (run input).answers (run input).session
unfolding whole_output new_printer output sheet answers_printed end_printed
whole_printed board_program input =
    let r = run input in
    ap (printed_answers 1 r.answers ++◌) (sym (numbered 1 r.answers r.session))
whole_printed sheet_program input =
    let fs = closings_in (run input).answers in
    sym (along_pages [] fs (unfold page_slots in omega arith) (taken fs (closings_fit input)))
    ∙ ap (λ (p : Printer). pages_along [] fs ++ end_printed p (run input).session) (sym (filled [] (run input).answers))

pub byte_by_byte : ByteByByte
unfolding ByteByByte new_machine run partial_room printed_along printed_at_end
byte_by_byte g input =
    let n = new_machine g in
    let m = after_bytes n input in
    let first = answers_along n input in
    let last = last_answers m in
    let whole : run input ≡ onto first (ended m) = along new_session (new_printer g) [] input (unfold every in refl) in
    let here : m.printer ≡ printer_along (new_printer g) first = printer_after_bytes n input in
    let at_last : printer_along (new_printer g) (first ++ last) ≡ last_printer m =
    printer_append (new_printer g) first last ∙ ap (λ (p : Printer). printer_along p last) (sym here) ∙ sym (printer_at_end m)
    in
    record {
      answers = ap (λ (r : Run). r.answers) whole;
      session = ap (λ (r : Run). r.session) whole;
      printed = whole_printed g input
          ∙ ap (λ (r : Run). printed_all (new_printer g) r.answers r.session) whole
          ∙ ap₂ (λ (x : Bytes) (p : Printer). x ++ end_printed p (last_session m))
          (printed_joined (new_printer g) first last ∙ ap (λ (p : Printer). printed_along n input ++ answers_printed p last) (sym here))
          at_last
          ∙ append_assoc (printed_along n input) (answers_printed m.printer last) (end_printed (last_printer m) (last_session m));
    }

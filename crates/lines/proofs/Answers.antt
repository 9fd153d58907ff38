-- Laws of answers: those of bytes joined, and how they are printed.
use mathlib.Core.Path.{◌≡◌, refl, sym, ap, ◌∙◌}
use mathlib.Core.Bool.{Bool, true, false, cond}
use mathlib.Core.List.{List, [], ◌∷◌, ◌++◌, flat_map, append_assoc, append-nil}
use Prim.Native.Nat.{ℕ, suc}
use lib.Dec.{eqb}
use lib.ListN.{length}
use Rattle.lines.specs.Bytes.{Bytes, line_end}
use Rattle.lines.specs.Session.{Answer, session_after}
use Rattle.lines.specs.Output.{printed_answer, printed_answers}
use Rattle.lines.specs.Sheet.{figures_in, closings_in}
use Rattle.lines.specs.Printers.{Printer, numbering, filling, page_along, pages_along, answers_printed, printer_after}
use Rattle.lines.specs.Machine.{Machine, extend, line_step, answered_by, after_byte, after_bytes, answers_along, last_answers, last_printer, printed_along}
use Rattle.lines.proofs.PagesAlong.{pages_along_append}

pub after_append : (m : Machine) (a b : Bytes) → after_bytes m (a ++ b) ≡ after_bytes (after_bytes m a) b
unfolding after_bytes
after_append m [] b = refl
after_append m (x ∷ a) b = after_append (after_byte m x) a b

pub answers_append : (m : Machine) (a b : Bytes) → answers_along m (a ++ b) ≡ answers_along m a ++ answers_along (after_bytes m a) b
unfolding after_bytes answers_along
answers_append m [] b = refl
answers_append m (x ∷ a) b =
    let n = after_byte m x in
    ap (answered_by m x ++◌) (answers_append n a b) ∙ sym (append_assoc (answered_by m x) (answers_along n a) (answers_along (after_bytes n a) b))

-- the printer after answers
unfoldable pub printer_along : Printer → List Answer → Printer
printer_along p [] = p
printer_along p (a ∷ rest) = printer_along (printer_after p a) rest

pub printer_append : (p : Printer) (first rest : List Answer) → printer_along p (first ++ rest) ≡ printer_along (printer_along p first) rest
unfolding printer_along
printer_append p [] rest = refl
printer_append p (a ∷ first) rest = printer_append (printer_after p a) first rest

-- the printer after bytes is the one after their answers
printer_after_byte : (m : Machine) (b : ℕ) → (after_byte m b).printer ≡ printer_along m.printer (answered_by m b)
unfolding after_byte answered_by printer_along
printer_after_byte m b = go (eqb b line_end)
  where
    go : (e : Bool) →
        (cond {A = Machine} e
        (record { session = session_after m.session (line_step m); printer = printer_after m.printer (line_step m).answer; partial = [] })
        (record { session = m.session; printer = m.printer; partial = extend b m.partial })
        ).printer
        ≡ printer_along m.printer (cond e ((line_step m).answer ∷ []) [])
    go true = refl
    go false = refl

pub printer_after_bytes : (m : Machine) (bs : Bytes) → (after_bytes m bs).printer ≡ printer_along m.printer (answers_along m bs)
unfolding after_bytes answers_along printer_along
printer_after_bytes m [] = refl
printer_after_bytes m (b ∷ bs) =
    let n = after_byte m b in
    printer_after_bytes n bs
    ∙ ap (λ (p : Printer). printer_along p (answers_along n bs)) (printer_after_byte m b)
    ∙ sym (printer_append m.printer (answered_by m b) (answers_along n bs))

-- and so is the last one
pub printer_at_end : (m : Machine) → last_printer m ≡ printer_along m.printer (last_answers m)
unfolding last_printer last_answers printer_along
printer_at_end m = go (eqb (length m.partial) 0)
  where
    go : (e : Bool) → cond {A = Printer} e m.printer (printer_after m.printer (line_step m).answer) ≡ printer_along m.printer (cond e [] ((line_step m).answer ∷ []))
    go true = refl
    go false = refl

-- no answer prints nothing
pub printed_none : (p : Printer) → answers_printed p [] ≡ []
unfolding answers_printed printed_answers pages_along closings_in flat_map
printed_none (numbering i) = refl
printed_none (filling q) = refl

-- the answers behind the first are printed by the printer after it
printed_first : (p : Printer) (a : Answer) (rest : List Answer) → answers_printed p (a ∷ rest) ≡ answers_printed p (a ∷ []) ++ answers_printed (printer_after p a) rest
unfolding answers_printed printer_after printed_answers closings_in flat_map
printed_first (numbering i) a rest = ap (λ (x : Bytes). x ++ printed_answers (suc i) rest) (sym (append-nil (printed_answer i a)))
printed_first (filling q) a rest =
    pages_along_append q (figures_in a) (closings_in rest)
    ∙ ap (λ x. pages_along q x ++ pages_along (page_along q (figures_in a)) (closings_in rest)) (sym (append-nil (figures_in a)))

pub printed_joined : (p : Printer) (first rest : List Answer) → answers_printed p (first ++ rest) ≡ answers_printed p first ++ answers_printed (printer_along p first) rest
unfolding printer_along
printed_joined p [] rest = ap (λ (x : Bytes). x ++ answers_printed p rest) (sym (printed_none p))
printed_joined p (a ∷ first) rest =
    let one = answers_printed p (a ∷ []) in
    let q = printer_after p a in
    printed_first p a (first ++ rest)
    ∙ ap (one ++◌) (printed_joined q first rest)
    ∙ sym (append_assoc one (answers_printed q first) (answers_printed (printer_along q first) rest))
    ∙ ap (λ (x : Bytes). x ++ answers_printed (printer_along q first) rest) (sym (printed_first p a first))

-- no byte prints nothing
pub printed_nothing : (m : Machine) → printed_along m [] ≡ []
unfolding printed_along answers_along
printed_nothing m = printed_none m.printer

pub printed_append : (m : Machine) (a b : Bytes) → printed_along m (a ++ b) ≡ printed_along m a ++ printed_along (after_bytes m a) b
unfolding printed_along
printed_append m a b =
    ap (answers_printed m.printer) (answers_append m a b)
    ∙ printed_joined m.printer (answers_along m a) (answers_along (after_bytes m a) b)
    ∙ ap (λ (p : Printer). printed_along m a ++ answers_printed p (answers_along (after_bytes m a) b)) (sym (printer_after_bytes m a))

-- The machine along bytes: a line that goes on, a line that ends.
use mathlib.Core.Bool.{true, false, not}
use mathlib.Core.List.{List, [], ◌∷◌, ◌++◌}
use mathlib.Core.Path.{◌≡◌, refl, ap, ap₂, ◌∙◌}
use Prim.Native.Nat.{ℕ}
use borrow.Author.Tests.{not-true}
use lib.Dec.{eqb}
use Rattle.lists.specs.Select.{every}
use Rattle.lists.proofs.Tests.{and_left, and_right, cond_false}
use Rattle.lines.specs.Bytes.{Bytes, line_end}
use Rattle.lines.specs.Session.{Session, Answer, step, session_after}
use Rattle.lines.specs.Printers.{Printer, answers_printed, printer_after}
use Rattle.lines.specs.Machine.{Machine, extend, line_step, answered_by, after_byte, after_bytes, answers_along, printed_along}
use Rattle.lines.proofs.Cutting.{one_line}
use Rattle.lines.proofs.Answers.{after_append, answers_append, printed_none}
use Rattle.cutting.specs.Cut.{extend_all}

apart : (b : ℕ) (bs : Bytes) → one_line (b ∷ bs) ≡ true → (eqb b line_end ≡ false) × (one_line bs ≡ true)
unfolding every
apart b bs h =
    let n = not (eqb b line_end) in
    (not-true (eqb b line_end) (and_left n (one_line bs) h), and_right n (one_line bs) h)

module _ (s : Session) (i : Printer) where
  -- reading a line of which these bytes are there
  abbrev pub reading : Bytes → Machine
  reading l = record { session = s; printer = i; partial = l }

  -- a byte that ends no line
  byte_after : (l : Bytes) (b : ℕ) → eqb b line_end ≡ false → after_byte (reading l) b ≡ reading (extend b l)
  unfolding after_byte line_step
  byte_after l b e = cond_false (eqb b line_end) (record { session = session_after s (step s.board l); printer = printer_after i (step s.board l).answer; partial = [] }) (reading (extend b l)) e

  byte_answered : (l : Bytes) (b : ℕ) → eqb b line_end ≡ false → answered_by (reading l) b ≡ []
  unfolding answered_by line_step
  byte_answered l b e = cond_false (eqb b line_end) ((step s.board l).answer ∷ []) [] e

  -- bytes that end no line are kept, and bring no answer
  pub part_after : (l bs : Bytes) → one_line bs ≡ true → after_bytes (reading l) bs ≡ reading (extend_all l bs)
  unfolding after_bytes extend_all
  part_after l [] h = refl
  part_after l (b ∷ bs) h =
      let a = apart b bs h in
      ap (λ (m : Machine). after_bytes m bs) (byte_after l b a.0) ∙ part_after (extend b l) bs a.1

  part_answered : (l bs : Bytes) → one_line bs ≡ true → answers_along (reading l) bs ≡ []
  unfolding answers_along
  part_answered l [] h = refl
  part_answered l (b ∷ bs) h =
      let a = apart b bs h in
      ap₂ (λ (x : List Answer) (m : Machine). x ++ answers_along m bs) (byte_answered l b a.0) (byte_after l b a.0) ∙ part_answered (extend b l) bs a.1

  pub part_printed : (l bs : Bytes) → one_line bs ≡ true → printed_along (reading l) bs ≡ []
  unfolding printed_along
  part_printed l bs h = ap (answers_printed i) (part_answered l bs h) ∙ printed_none i

  -- with a line end behind them, the line is answered
  module _ (l bs : Bytes) (h : one_line bs ≡ true) where
    pub line_after : let a = step s.board (extend_all l bs) in
        after_bytes (reading l) (bs ++ (line_end ∷ [])) ≡ record { session = session_after s a; printer = printer_after i a.answer; partial = [] }
    unfolding after_bytes after_byte line_step line_end
    line_after = after_append (reading l) bs (line_end ∷ []) ∙ ap (λ (m : Machine). after_bytes m (line_end ∷ [])) (part_after l bs h)

    line_answered : answers_along (reading l) (bs ++ (line_end ∷ [])) ≡ (step s.board (extend_all l bs)).answer ∷ []
    unfolding answers_along answered_by line_step line_end
    line_answered =
        answers_append (reading l) bs (line_end ∷ [])
        ∙ ap₂ (λ (x : List Answer) (m : Machine). x ++ answers_along m (line_end ∷ [])) (part_answered l bs h) (part_after l bs h)

    pub line_printed : printed_along (reading l) (bs ++ (line_end ∷ [])) ≡ answers_printed i ((step s.board (extend_all l bs)).answer ∷ [])
    unfolding printed_along
    line_printed = ap (answers_printed i) line_answered

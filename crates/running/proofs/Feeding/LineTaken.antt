-- A line of a chunk taken in: it goes on to the chunk's end and its bytes are kept, or it ends and is answered.
use mathlib.Core.Bool.{true, false, cond}
use mathlib.Core.List.{[], ◌∷◌, ◌++◌, append-nil, append_assoc}
use mathlib.Core.Option.{Option}
use mathlib.Core.Path.{◌≡◌, refl, sym, subst, ap, ap₂, ◌∙◌}
use Prim.Native.Nat.{ℕ, suc, ◌+◌, ◌≤◌, ◌<◌, min}
use native.Mathlib.Numerals.{add-one}
use native.Mathlib.Omega.{arith}
use borrow.Author.Tests.{ltb-true, ltb-false}
use lib.ListN.{length, get_or, take}
use lib.Seq.{take-length}
use Rattle.board.specs.declared.Board.{Board}
use Rattle.lines.specs.Bytes.{Bytes, line_end}
use Rattle.lines.specs.Session.{Session, Step, step, session_after}
use Rattle.lines.specs.Printers.{Printer, answers_printed, printer_after}
use Rattle.lines.specs.Machine.{partial_room, after_bytes, printed_along}
use Rattle.lines.proofs.Cutting.{one_line}
use Rattle.lines.proofs.LongLines.{step_first, extend_first}
use Rattle.buffer.specs.Puts.{put}
use Rattle.buffer.proofs.Puts.{put_none}
use Rattle.cutting.specs.declared.Cut.{Cut}
use Rattle.cutting.specs.Cut.{partial_bytes, part, extend_all, line_end_from, CutFrom}
use Rattle.cutting.proofs.Ends.{end_forward, end_inside, end_first, end_found}
use Rattle.cutting.proofs.Parts.{part_last}
use Rattle.answers.specs.Printed.{answer_room}
use Rattle.printers.specs.declared.Printer.{Printer as PrinterHeld}
use Rattle.printers.specs.Programs.{printer_of}
use Rattle.running.specs.declared.state.State.{State}
use Rattle.session.specs.Inner.Days.{session_of}
use Rattle.running.specs.Inner.Days.{Answered}
use Rattle.running.specs.Inner.Machines.{machine_of, TakenIn}
use Rattle.running.proofs.Feeding.Along.{part_after, part_printed, line_after, line_printed}

-- the line that goes on at `from` ends at `to`
record LineEnds (chunk : Bytes) (from to : ℕ) : Type 0 where
  pub forward : from ≤ to
  pub inside : to ≤ length chunk
  pub first : one_line (part chunk from to) ≡ true
  pub found : to < length chunk → get_or chunk to 0 ≡ line_end

module _ (k k' : State) (s : Bytes) (from to : ℕ) (out : Bytes) (at : ℕ) (l : LineEnds s from to) where
  -- its bytes are kept
  taken_part : k'.day ≡ k.day → k'.printer ≡ k.printer → partial_bytes k'.partial ≡ extend_all (partial_bytes k.partial) (part s from to) → at ≤ length out
      → TakenIn k s from out at (record { state = k'; used = to; at = at }) out
  unfolding machine_of answer_room
  taken_part d p e f =
      let none : printed_along (machine_of k) (part s from to) ≡ [] =
      part_printed (session_of k.day) (printer_of k.printer) (partial_bytes k.partial) (part s from to) l.first
      in
      record {
        forward = l.forward;
        inside = l.inside;
        number = omega (arith, l.forward, ap (λ (x : PrinterHeld). x.number) p);
        machine = (λ j. record { session = session_of (d j); printer = printer_of (p j); partial = e j })
            ∙ sym (part_after (session_of k.day) (printer_of k.printer) (partial_bytes k.partial) (part s from to) l.first);
        end = rw none (omega arith);
        few = omega (arith, l.forward);
        fits = f;
        bytes = rw none (sym (put_none out at));
      }

  -- its end is in the chunk, and it is answered
  module _
      (m : to < length s) (line : Bytes) (e : step (session_of k.day).board line ≡ step (session_of k.day).board (extend_all (partial_bytes k.partial) (part s from to)))
      (r : ℕ) (out' : Bytes) (a : Answered k.day k.printer line out at (record { day = k'.day; printer = k'.printer; at = r }) out')
    where
      used_line : part s from (to + 1) ≡ part s from to ++ (line_end ∷ [])
      used_line = rw add-one (part_last s from to l.forward m) ∙ ap (λ (b : ℕ). part s from to ++ (b ∷ [])) (l.found m)

      printed_line : printed_along (machine_of k) (part s from (to + 1)) ≡ answers_printed (printer_of k.printer) ((step (session_of k.day).board line).answer ∷ [])
      unfolding machine_of
      printed_line =
          ap (printed_along (machine_of k)) used_line
          ∙ line_printed (session_of k.day) (printer_of k.printer) (partial_bytes k.partial) (part s from to) l.first
          ∙ ap (λ (x : Step). answers_printed (printer_of k.printer) (x.answer ∷ [])) (sym e)

      taken_line : partial_bytes k'.partial ≡ [] → at + answer_room ≤ length out
          → TakenIn k s from out at (record { state = k'; used = to + 1; at = r }) out'
      unfolding machine_of answer_room
      taken_line none f =
          record {
            forward = omega (arith, l.forward);
            inside = omega arith;
            number = omega (arith, l.forward, a.number);
            machine = (λ j. record { session = session_of k'.day; printer = printer_of k'.printer; partial = none j })
                ∙ ap₂
                (λ (x : Session) (p : Printer). record { session = x; printer = p; partial = [] })
                (a.given.session ∙ ap (λ (x : Step). session_after (session_of k.day) x) e)
                (a.given.printer ∙ ap (λ (x : Step). printer_after (printer_of k.printer) x.answer) e)
                ∙ sym (line_after (session_of k.day) (printer_of k.printer) (partial_bytes k.partial) (part s from to) l.first)
                ∙ ap (after_bytes (machine_of k)) (sym used_line);
            end = a.given.end ∙ ap (λ (x : Bytes). at + length x) (sym printed_line);
            few = omega (arith, l.forward, a.given.within);
            fits = omega (arith, a.given.within);
            bytes = a.given.bytes ∙ ap (put out at) (sym printed_line);
          }

line_ends : (s : Bytes) (from to : ℕ) → from ≤ length s → to ≡ line_end_from s from → LineEnds s from to
line_ends s from to inside is =
    rw is (record { forward = end_forward s from inside; inside = end_inside s from inside; first = end_first s from inside; found = end_found s from inside })

-- a line cut from the chunk's bytes from `from` on
module _
    (k k' : State) (s : Bytes) (from : ℕ) (out : Bytes) (at : ℕ) {r : Cut} (inside : from ≤ length s) (c : CutFrom k.partial s (min from (length s)) r)
  where
    cut : CutFrom k.partial s from r
    cut = let e : min from (length s) ≡ from = omega arith in subst (λ (n : ℕ). CutFrom k.partial s n r) e c

    abbrev to : ℕ
    to = line_end_from s from

    ends : LineEnds s from to
    ends = line_ends s from to inside refl

    -- its end is not in the chunk
    module _ (h : r.ended ≡ false) where
      used_all : r.used ≡ to
      used_all = cut.used ∙ ap (λ b. cond b (suc to) to) h

      pub cut_part : k'.day ≡ k.day → k'.printer ≡ k.printer → k'.partial ≡ r.partial → at ≤ length out
          → TakenIn k s from out at (record { state = k'; used = r.used; at = at }) out
      cut_part d p e f =
          subst (λ (n : ℕ). TakenIn k s from out at (record { state = k'; used = n; at = at }) out) (sym used_all)
          (taken_part k k' s from to out at ends d p (ap partial_bytes e ∙ cut.line) f)

      -- and then the chunk is used to its end
      pub cut_all : r.used ≡ length s
      cut_all = omega (arith, used_all, ends.inside, ltb-false to (length s) (sym cut.ended ∙ h))

    module _ (h : r.ended ≡ true) where
      ended_in : to < length s
      ended_in = ltb-true to (length s) (sym cut.ended ∙ h)

      used_end : r.used ≡ to + 1
      used_end = cut.used ∙ ap (λ b. cond b (suc to) to) h ∙ sym (add-one to)

      pub further : from < r.used
      further = omega (arith, used_end, ends.forward)

      -- it is, and the line is answered
      pub cut_line : (end : ℕ) (out' : Bytes) → Answered k.day k.printer (partial_bytes r.partial) out at (record { day = k'.day; printer = k'.printer; at = end }) out'
          → partial_bytes k'.partial ≡ [] → at + answer_room ≤ length out → TakenIn k s from out at (record { state = k'; used = r.used; at = end }) out'
      cut_line end out' a none f =
          subst (λ (n : ℕ). TakenIn k s from out at (record { state = k'; used = n; at = end }) out') (sym used_end)
          (taken_line k k' s from to out at ends ended_in (partial_bytes r.partial) (ap (step (session_of k.day).board) cut.line) end out' a none f)

-- what is kept of a line whose bytes lie in the chunk
kept_first : (l bs : Bytes) → extend_all (take partial_room l) bs ≡ take partial_room (l ++ bs)
unfolding extend_all
kept_first l [] = ap (take partial_room) (sym (append-nil l))
kept_first l (b ∷ bs) =
    ap (λ (x : Bytes). extend_all x bs) (extend_first b l)
    ∙ kept_first (l ++ (b ∷ [])) bs
    ∙ ap (take partial_room) (append_assoc l (b ∷ []) bs)

-- nothing of it is lost by what is kept of a line
same_step : (o : Option Board) (bs : Bytes) → step o (extend_all [] bs) ≡ step o bs
unfolding partial_room
same_step o bs = ap (step o) (kept_first [] bs) ∙ step_first o bs

-- a line whose bytes lie in the chunk, answered where it lies
pub whole_line : (k k' : State) (s : Bytes) (from to : ℕ) (out : Bytes) (at end : ℕ) (out' : Bytes) → from ≤ length s → to ≡ line_end_from s from → to < length s
    → partial_bytes k.partial ≡ [] → partial_bytes k'.partial ≡ [] → Answered k.day k.printer (part s from to) out at (record { day = k'.day; printer = k'.printer; at = end }) out'
    → at + answer_room ≤ length out → TakenIn k s from out at (record { state = k'; used = to + 1; at = end }) out'
whole_line k k' s from to out at end out' inside is m none after a f =
    let o = (session_of k.day).board in
    taken_line k k' s from to out at (line_ends s from to inside is) m (part s from to)
    (sym (same_step o (part s from to)) ∙ ap (λ (l : Bytes). step o (extend_all l (part s from to))) (sym none)) end out' a after f

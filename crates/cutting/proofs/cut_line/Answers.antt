-- The line's bytes are added up to its end.
use mathlib.Core.Path.{◌≡◌, sym, ap, ap₂, ◌∙◌}
use Prim.Native.Nat.{ℕ, suc, ◌+◌, ◌≤◌, min}
use native.Mathlib.Numerals.{add-one}
use native.Mathlib.Omega.{arith}
use borrow.Author.Tests.{lt-ltb, le-ltb}
use lib.Dec.{ltb}
use lib.ListN.{length, take, drop}
use Rattle.lists.specs.Before.{before}
use Rattle.lists.proofs.Parts.{drop_take}
use Rattle.lists.proofs.Tests.{cond_true, cond_false}
use Rattle.lines.specs.Bytes.{line_end}
use Rattle.lines.specs.Reading.{longest_line}
use Rattle.lines.specs.Machine.{partial_room}
use Rattle.cutting.specs.Cut.{partial_bytes, part, extend_all, line_end_from}
use Rattle.cutting.proofs.Ends.{end_forward, end_inside}
use Rattle.cutting.proofs.Known.{partial_length, take_lesser}
use Rattle.cutting.proofs.cut_line.Goals as goal
use Rattle.cutting.proofs.cut_line.Goals.{After-extend, After-next_byte-end}

-- where the line starts in the chunk, and where it ends
abbrev start : After-next_byte-end → ℕ
start c = min c.args.from (length c.args.chunk.now)

abbrev end : After-next_byte-end → ℕ
end c = line_end_from c.args.chunk.now (start c)

found : (c : After-next_byte-end) → c.next_byte-end.result ≡ end c
unfolding line_end_from line_end
found c =
    c.next_byte-end.ensures
    ∙ ap (λ (n : ℕ). n + before line_end (drop n c.args.chunk.now)) c.lesser-start.ensures

pub slice_bounds-bytes-end : goal.slice_bounds-bytes-end
slice_bounds-bytes-end c =
    let e = (goal.at.slice_bounds-bytes-end c).After-next_byte-end in
    let a = c.args in
    let within : start e ≤ length a.chunk.now = omega arith in
    omega (arith, c.lesser-start.ensures, found e, end_forward a.chunk.now (start e) within, end_inside a.chunk.now (start e) within)

-- the bytes that were there before are all kept
line : (c : After-extend) →
    let e = (goal.at.After-extend c).After-next_byte-end in
    partial_bytes c.extend.new.self ≡ extend_all (partial_bytes c.args.h) (part c.args.chunk.now (start e) (end e))
unfolding partial_bytes part partial_room longest_line
line c =
    let e = (goal.at.After-extend c).After-next_byte-end in
    let a = c.args in
    let s = c.lesser-start.result in
    let t = c.next_byte-end.result in
    let kept : take c.lesser.result a.h.bytes ≡ take a.h.len a.h.bytes =
    ap (λ (n : ℕ). take n a.h.bytes) c.lesser.ensures ∙ take_lesser a.h.len a.h.bytes partial_room (partial_length a.h _ c.well_formed.0)
    in
    c.extend.ensures.line
    ∙ ap₂ extend_all kept (sym (drop_take s t a.chunk.now))
    ∙ ap₂ (λ (n m : ℕ). extend_all (take a.h.len a.h.bytes) (drop n (take m a.chunk.now))) c.lesser-start.ensures (found e)

pub returns-then-ended : goal.returns-then-ended
unfolding partial_room longest_line
returns-then-ended c =
    let h = (goal.at.returns-then-ended c).After-extend in
    let e = (goal.at.returns-then-ended c).After-next_byte-end in
    record {
      line = line h;
      few = c.extend.ensures.few (omega (arith, c.lesser.ensures));
      ended = ap (λ (n : ℕ). ltb n (length c.args.chunk.now)) (found e);
      used = add-one _ ∙ ap suc (found e) ∙ sym (cond_true _ (suc (end e)) (end e) (lt-ltb _ _ c.if-ended.true));
    }

pub returns-else-ended : goal.returns-else-ended
unfolding partial_room longest_line
returns-else-ended c =
    let h = (goal.at.returns-else-ended c).After-extend in
    let e = (goal.at.returns-else-ended c).After-next_byte-end in
    record {
      line = line h;
      few = c.extend.ensures.few (omega (arith, c.lesser.ensures));
      ended = ap (λ (n : ℕ). ltb n (length c.args.chunk.now)) (found e);
      used = found e ∙ sym (cond_false _ (suc (end e)) (end e) (le-ltb _ _ c.if-ended.false));
    }

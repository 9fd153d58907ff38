-- `feed_line`: a whole line answered where it lies.
use mathlib.Core.Path.{◌≡◌, ap}
use mathlib.Core.List.{[]}
use lib.ListN.{take}
use Rattle.lines.specs.Bytes.{line_end}
use Rattle.lists.proofs.Parts.{drop_take}
use Rattle.cutting.specs.Cut.{partial_bytes, part, line_end_from}
use Rattle.running.proofs.Feeding.LineTaken.{whole_line}
use Rattle.running.proofs.feed.feed_line.Goals as goal

pub returns-then-to-chunk-clause-taken_in : goal.returns-then-to-chunk-clause-taken_in
unfolding partial_bytes part line_end_from line_end
returns-then-to-chunk-clause-taken_in c =
    let a = c.args in
    let none : partial_bytes a.state.now.partial ≡ [] = ap (λ n. take n a.state.now.partial.bytes) c.if-state-eq0.true in
    whole_line a.state.now _ a.chunk.now a.from c.next_byte-to.result a.out.now a.at c.answer_line-end.result _ c.requires.in_chunk c.next_byte-to.ensures
    c.if-to-chunk.true none none (rw (← drop_take a.from c.next_byte-to.result a.chunk.now) at c.answer_line-end.ensures) c.requires.has_room

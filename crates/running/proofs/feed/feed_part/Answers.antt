-- `feed_part`: a line cut from the chunk, which goes on or is answered.
use mathlib.Core.Path.{refl}
use native.Mathlib.Omega.{arith}
use Rattle.lines.specs.Reading.{longest_line}
use Rattle.lines.specs.Machine.{partial_room}
use Rattle.answers.specs.Printed.{answer_room}
use Rattle.cutting.specs.Cut.{partial_bytes}
use Rattle.running.proofs.Feeding.LineTaken.{further, cut_part, cut_all, cut_line}
use Rattle.running.proofs.feed.feed_part.Goals as goal

pub returns-then-not-cut-clause-taken_in : goal.returns-then-not-cut-clause-taken_in
returns-then-not-cut-clause-taken_in c =
    let a = c.args in
    cut_part a.state.now _ a.chunk.now a.from a.out.now a.at c.requires.in_chunk c.cut_line-cut.ensures c.if-not-cut.true refl refl refl
    (omega (arith, c.requires.has_room))

pub returns-then-not-cut-clause-forward : goal.returns-then-not-cut-clause-forward
returns-then-not-cut-clause-forward c =
    let a = c.args in
    λ h. omega (arith, h, cut_all a.state.now a.state.now a.chunk.now a.from a.out.now a.at c.requires.in_chunk c.cut_line-cut.ensures c.if-not-cut.true)

pub shared_ref_as_front-line : goal.shared_ref_as_front-line
unfolding partial_room longest_line
shared_ref_as_front-line c = omega (arith, c.cut_line-cut.ensures.few)

pub returns-clause-taken_in : goal.returns-clause-taken_in
unfolding partial_bytes
returns-clause-taken_in c =
    let a = c.args in
    cut_line a.state.now _ a.chunk.now a.from a.out.now a.at c.requires.in_chunk c.cut_line-cut.ensures c.if-not-cut.false
    c.answer_line-end.result _ c.answer_line-end.ensures refl c.requires.has_room

pub returns-clause-forward : goal.returns-clause-forward
returns-clause-forward c =
    let a = c.args in
    λ h. further a.state.now a.state.now a.chunk.now a.from a.out.now a.at c.requires.in_chunk c.cut_line-cut.ensures c.if-not-cut.false

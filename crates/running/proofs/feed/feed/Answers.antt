-- `feed`: what was taken in, and a line more.
use Prim.Native.Nat.{◌+◌, ◌≤◌, ◌<◌}
use native.Mathlib.Omega.{arith}
use borrow.Author.Tests.{leb-false}
use lib.ListN.{length}
use Rattle.answers.specs.Printed.{answer_room}
use Rattle.running.proofs.Feeding.Taken.{taken_none, kept_length, taken_join, stops_full, stops_at_end}
use Rattle.running.proofs.feed.feed.Goals as goal

pub loop-used-init : goal.loop-used-init
loop-used-init c =
    let a = c.args in
    taken_none a.state.now a.chunk.now a.from a.out.now a.at c.requires.in_chunk c.requires.in_buffer

pub loop-used-preserved : goal.loop-used-preserved
loop-used-preserved c = taken_join c.loop-used.invariant c.feed_line-fed.ensures.taken_in

pub feed_line-fed-requires-clause-has_room : goal.feed_line-fed-requires-clause-has_room
unfolding answer_room
feed_line-fed-requires-clause-has_room c = omega arith

pub returns-else-end-out-clause-goes_on : goal.returns-else-end-out-clause-goes_on
unfolding answer_room
returns-else-end-out-clause-goes_on c =
    let no_room : length c.loop-used.out < c.loop-used.end + answer_room = leb-false _ _ c.if-end-out.false-raw in
    stops_full c.loop-used.invariant (omega (arith, no_room, kept_length c.loop-used.invariant))

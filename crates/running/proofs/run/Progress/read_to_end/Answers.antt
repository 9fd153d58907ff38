-- `read_to_end`: chunk by chunk, each written before the next is read.
use mathlib.Core.Path.{◌∙◌}
use native.Mathlib.Omega.{arith}
use lib.ListN.{length-take}
use Rattle.std.proofs.lemmas.Result.{err_from_is_err_and}
use Rattle.answers.specs.Printed.{answer_room}
use Rattle.running.specs.Runs.{buffer_length, most_read}
use Rattle.running.proofs.Running.Inputs.{nothing_read, unread, too_long, chunk_more, chunk_part}
use Rattle.running.proofs.run.Progress.read_to_end.Goals as goal

pub loop-self-init : goal.loop-self-init
unfolding buffer_length
loop-self-init g c = (λ program b. nothing_read b, omega arith, omega arith)

pub take_in-requires-clause-buffers : goal.take_in-requires-clause-buffers
unfolding buffer_length
take_in-requires-clause-buffers g c =
    let v = c.loop-self.invariant in
    (omega (arith, length-take c.in-Ok-Some.n c.read_some.new.buf, c.read_some.auto.buf, v.1), v.2)

pub take_in-requires-clause-few_bytes : goal.take_in-requires-clause-few_bytes
unfolding answer_room
take_in-requires-clause-few_bytes g c =
    let v = c.loop-self.invariant in
    let t = c.loop-self-test.true in
    let few = (v.0 c.requires.0 c.requires.1).few in
    (omega (arith, t), omega (arith, few, t))

pub loop-self-preserved : goal.loop-self-preserved
loop-self-preserved g c =
    let v = c.loop-self.invariant in
    (λ program b. chunk_more (v.0 program b) _ c.in_ok-take_in-in-Ok-Some.ensures, c.read_some.auto.buf ∙ v.1, c.take_in.auto.out ∙ v.2)

pub returns-in_err-take_in-in-Ok-Some : goal.returns-in_err-take_in-in-Ok-Some
returns-in_err-take_in-in-Ok-Some g c =
    let p = err_from_is_err_and c.from_residual.result c.from_residual.ensures.1 in
    λ program b. rw (p.1, p.2) (chunk_part (c.loop-self.invariant.0 program b) _ _ c.in_err-take_in-in-Ok-Some.ensures)

pub finish-requires-clause-few_lines : goal.finish-requires-clause-few_lines
finish-requires-clause-few_lines g c =
    let v = c.loop-self.invariant in
    omega (arith, (v.0 c.requires.0 c.requires.1).number, c.loop-self-test.true)

pub finish-requires-clause-few_bytes : goal.finish-requires-clause-few_bytes
unfolding buffer_length answer_room
finish-requires-clause-few_bytes g c =
    let v = c.loop-self.invariant in
    omega (arith, (v.0 c.requires.0 c.requires.1).few, c.loop-self-test.true)

pub returns-in-Err : goal.returns-in-Err
returns-in-Err g c = λ program b. unread (c.loop-self.invariant.0 program b) _

pub returns : goal.returns
unfolding most_read
returns g c = λ program b. too_long (c.loop-self.invariant.0 program b) c.loop-self-test.false

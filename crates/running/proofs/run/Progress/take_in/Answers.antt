-- `take_in`: part by part, each written before the next.
use mathlib.Core.Path.{◌≡◌, refl, ◌∙◌}
use Prim.Native.Nat.{ℕ}
use native.Mathlib.Omega.{arith}
use lib.ListN.{length, take}
use lib.Seq.{length-take-le}
use Rattle.std.proofs.lemmas.Result.{err_from_is_err_and}
use Rattle.lines.specs.Bytes.{Bytes}
use Rattle.answers.specs.Printed.{answer_room}
use Rattle.running.specs.declared.state.State.{State}
use Rattle.running.specs.Inner.Machines.{After, TakenIn}
use Rattle.running.specs.Runs.{buffer_length, WrittenSo}
use Rattle.running.proofs.Feeding.Taken.{kept_length}
use Rattle.running.proofs.Running.Chunks.{along_none, along_whole, along_more, along_part}
use Rattle.running.proofs.run.Progress.take_in.Goals as goal

-- all that a part prints is handed to the write
handed : {state : State} {chunk out out' : Bytes} {used : ℕ} {f : After} → TakenIn state chunk used out 0 f out' → length (take f.at out') ≡ f.at
handed {out' = out'} {f = f} t = length-take-le f.at out' (omega (arith, t.fits, kept_length t))

pub loop-used-init : goal.loop-used-init
loop-used-init g c = (along_none c.args.self.now c.args.chunk.now, refl)

pub write-requires : goal.write-requires
unfolding answer_room buffer_length
write-requires g c =
    let v = c.loop-used.invariant in
    let b = c.requires.buffers in
    omega (arith, handed c.feed-fed.ensures.taken_in, c.feed-fed.ensures.taken_in.fits, v.1, v.0.few, v.0.inside, b.0, b.1, c.requires.few_bytes.1)

pub loop-used-smaller : goal.loop-used-smaller
unfolding answer_room buffer_length
loop-used-smaller g c =
    let t = c.loop-used-test.true in
    omega (arith, t, c.feed-fed.ensures.goes_on.further (omega (arith, c.loop-used.invariant.1, c.requires.buffers.1)) t)

pub loop-used-preserved : goal.loop-used-preserved
unfolding WrittenSo
loop-used-preserved g c =
    let t = c.feed-fed.ensures.taken_in in
    let w = c.in_ok-write.ensures in
    (along_more c.loop-used.invariant.0 t w.kept.0 w.kept.1 (omega (arith, handed t, w.written)), kept_length t ∙ c.loop-used.invariant.1)

pub returns-in_err-write : goal.returns-in_err-write
returns-in_err-write g c =
    let t = c.feed-fed.ensures.taken_in in
    let w = c.in_err-write.ensures in
    let p = err_from_is_err_and c.from_residual.result c.from_residual.ensures.1 in
    rw (p.1, p.2) (along_part c.loop-used.invariant.0 t {next = c.write.new.self} w.kept.0 w.kept.1 _ (rw (handed t) at w.written))

pub returns : goal.returns
returns g c = along_whole c.loop-used.invariant.0 c.loop-used-test.false

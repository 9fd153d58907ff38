-- `last_line`: a line has begun where a byte of it is there.
use mathlib.Core.Path.{◌≡◌, sym, ap, ◌∙◌}
use Prim.Native.Nat.{◌+◌}
use native.Mathlib.Omega.{arith}
use borrow.Author.Tests.{eq-eqb, eqb-true, not-true, not-false}
use Rattle.lists.proofs.Tests.{never}
use lib.ListN.{length}
use Rattle.lines.specs.Bytes.{Bytes}
use Rattle.lines.specs.Reading.{longest_line}
use Rattle.lines.specs.Machine.{line_step, partial_room}
use Rattle.buffer.specs.Puts.{put}
use Rattle.buffer.proofs.Puts.{put_none}
use Rattle.cutting.specs.Cut.{partial_bytes}
use Rattle.running.specs.Inner.Machines.{machine_of}
use Rattle.running.proofs.Feeding.Ending.{none_printed, none_after, none_known, begun_printed, begun_after, begun_known}
use Rattle.running.proofs.feed.last_line.Goals as goal

pub returns-then-not-has_begun : goal.returns-then-not-has_begun
unfolding machine_of partial_bytes
returns-then-not-has_begun c =
    let a = c.args in
    let m = machine_of a.state.now in
    let none : length m.partial ≡ 0 = eqb-true _ _ (not-false _ (sym c.has_begun.ensures ∙ c.if-not-has_begun.true)) in
    let e = none_printed m none in
    record {
      good = a.state.now.good;
      session = sym (none_after m none);
      printer = sym (none_known m none);
      end = rw e (omega arith);
      within = omega arith;
      bytes = rw e (sym (put_none a.out.now a.at));
    }

pub shared_ref_as_front-line : goal.shared_ref_as_front-line
unfolding partial_room longest_line
shared_ref_as_front-line c = omega (arith, c.args.state.now.few)

pub returns : goal.returns
unfolding machine_of partial_bytes line_step
returns c =
    let a = c.args in
    let m = machine_of a.state.now in
    let begun : length m.partial ≡ 0 → ⊥ = λ z. never (eq-eqb _ _ z) (not-true _ (sym c.has_begun.ensures ∙ c.if-not-has_begun.false)) in
    let r = c.answer_line.ensures.given in
    let e = begun_printed m begun in
    record {
      good = r.good;
      session = r.session ∙ sym (begun_after m begun);
      printer = r.printer ∙ sym (begun_known m begun);
      end = r.end ∙ sym (ap (λ (x : Bytes). a.at + length x) e);
      within = r.within;
      bytes = r.bytes ∙ sym (ap (put a.out.now a.at) e);
    }

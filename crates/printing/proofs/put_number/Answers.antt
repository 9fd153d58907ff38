-- `put_number`: with the digits of the rest put at `at`, the buffer is as with those of n. The measure is the rest.
use mathlib.Core.Path.{◌≡◌, ap, sym, ◌∙◌}
use Prim.Native.Nat.{ℕ, ◌+◌, ◌-◌, ◌/◌, ◌%◌}
use native.Mathlib.Omega.{arith}
use lib.ListN.{length}
use Rattle.lines.specs.Bytes.{Bytes}
use Rattle.lines.specs.Printing.{decimal}
use Rattle.lines.proofs.Decimals.{decimal_one}
use Rattle.buffer.specs.Puts.{put}
use Rattle.printing.specs.Lines.{line_digits}
use Rattle.printing.proofs.Decimals.{pair, decimal_two, decimal_two_more, length_two_more}
use Rattle.buffer.proofs.Puts.{put_one, put_before}
use Rattle.printing.proofs.put_number.Goals as goal

pub loop-rest-preserved : goal.loop-rest-preserved
loop-rest-preserved c =
    let l = c.loop-rest in
    let at = c.args.at in
    let ds = decimal (l.rest / 100) in
    let two = length_two_more l.rest (omega arith) in
    let e : l.next - 2 ≡ at + length ds = omega arith in (
      e,
      omega arith,
      c.put_pair.auto.out ∙ l.invariant.2,
      ap (λ (out : Bytes). put out at ds) c.put_pair.ensures
          ∙ ap (λ (k : ℕ). put (put l.out k (pair (l.rest % 100))) at ds) e
          ∙ put_before l.out at ds (pair (l.rest % 100)) (omega arith)
          ∙ ap (put l.out at) (sym (decimal_two_more l.rest (omega arith)))
          ∙ l.invariant.3,
    )

pub returns-then-rest-lt10 : goal.returns-then-rest-lt10
unfolding line_digits
returns-then-rest-lt10 c =
    let l = c.loop-rest in
    let at = c.args.at in
    record {
      end = omega arith;
      within = omega arith;
      bytes =
          put_one l.out at (48 + l.rest) (omega arith)
          ∙ ap (put l.out at) (sym (decimal_one l.rest (omega arith)))
          ∙ l.invariant.3;
    }

pub returns : goal.returns
returns c =
    let l = c.loop-rest in
    let at = c.args.at in
    record {
      end = omega arith;
      within = omega arith;
      bytes = c.put_pair-2.ensures ∙ ap (put l.out at) (sym (decimal_two l.rest (omega arith) (omega arith))) ∙ l.invariant.3;
    }

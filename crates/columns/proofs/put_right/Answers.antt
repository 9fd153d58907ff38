-- With what is left of the digits in the columns that are left, the buffer is as with all of them.
use Rattle.std.proofs.Common.{◌≡◌, [], ℕ, suc, ◌+◌, ◌-◌, ◌≤◌, ltb, length, length-set, refl, sym, ap, ◌∙◌, leb-true, le-leb, lt-ltb, le-ltb, arith}
use Rattle.lines.specs.Printing.{decimal}
use Rattle.lines.specs.Sheet.{to_right}
use Rattle.buffer.specs.Puts.{put}
use Rattle.buffer.proofs.Fitting.{put_fits}
use Rattle.buffer.proofs.Puts.{put_none}
use Rattle.columns.specs.Inner.Digits.{digits_left, column_byte}
use Rattle.columns.proofs.ToRight.{to_right_length, to_right_nowhere, all_digits, put_column}
use Rattle.columns.proofs.put_right.Goals as goal

pub loop-left-init : goal.loop-left-init
loop-left-init c =
    let a = c.args in
    let room : a.at + a.width ≤ length a.out.now = leb-true _ _ (sym c.room_for.ensures ∙ c.if-not-room_for.false) in
    (room, refl, rw (le-ltb a.width a.width (omega arith), all_digits a.n) refl)

pub loop-left-preserved : goal.loop-left-preserved
loop-left-preserved c =
    let a = c.args in
    let l = c.loop-left in
    let v = l.invariant in
    let i = l.left - 1 in
    let e : suc i ≡ l.left = omega arith in
    let e' : i + 1 ≡ l.left = omega arith in
    let b : c.column_byte.result ≡ column_byte (ltb l.left a.width) l.rest = c.column_byte.ensures ∙ ap (λ (k : ℕ). column_byte (ltb k a.width) l.rest) e' in (
      v.0,
      length-set l.out (a.at + i) c.column_byte.result ∙ v.1,
      rw (b, lt-ltb i a.width (omega arith))
          (put_column l.out a.at i (ltb l.left a.width) l.rest (omega arith)
          ∙ ap (λ (k : ℕ). put l.out a.at (to_right k (digits_left (ltb l.left a.width) l.rest))) e
          ∙ v.2),
    )

pub returns : goal.returns
returns c =
    let a = c.args in
    let l = c.loop-left in
    let e : l.left ≡ 0 = omega arith in
    let wide = to_right_length a.width (decimal a.n) in
    let rest = digits_left (ltb l.left a.width) l.rest in
    let none : to_right l.left rest ≡ [] = ap (λ (k : ℕ). to_right k rest) e ∙ to_right_nowhere rest in
    put_fits _ (le-leb _ _ l.invariant.0)
    (record { end = omega arith; within = omega arith; bytes = sym (put_none l.out a.at) ∙ ap (put l.out a.at) (sym none) ∙ l.invariant.2 })

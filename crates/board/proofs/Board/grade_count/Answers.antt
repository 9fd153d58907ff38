-- One shifted left by the depth is a power of two, which fits.
use mathlib.Core.Path.{◌≡◌, ap, ◌∙◌}
use Prim.Native.Nat.{◌^◌, min}
use native.Mathlib.Nat.{one-mul}
use native.Mathlib.Omega.{arith}
use lib.Dec.{lit<}
use lib.Pow.{shl_exact}
use Rattle.board.specs.Limits.{deepest}
use Rattle.board.proofs.Board.grade_count.Goals as goal

pub returns-then-depth-lt-DEEPEST : goal.returns-then-depth-lt-DEEPEST
unfolding deepest
returns-then-depth-lt-DEEPEST c =
    let d = c.args.depth in
    let e : d ≡ min d deepest = omega arith in
    shl_exact 1 d 32 (lit< tt) (omega arith) ∙ one-mul (2 ^ d) ∙ ap (λ k. 2 ^ k) e

pub returns : goal.returns
unfolding deepest
returns c =
    let d = c.args.depth in
    let e : deepest ≡ min d deepest = omega arith in
    ap (λ k. 2 ^ k) e

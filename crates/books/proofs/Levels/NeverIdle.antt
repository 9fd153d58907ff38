-- A rival never idles with a job in date.
use mathlib.Core.Path.{◌≡◌, ap}
use mathlib.Core.Bool.{true, not}
use mathlib.Core.List.{List}
use Prim.Native.Nat.{ℕ}
use native.Mathlib.Omega.{arith}
use lib.Dec.{eqb}
use borrow.Author.Tests.{ne_eqb}
use Rattle.lists.specs.Select.{has}
use Rattle.lists.proofs.Tests.{or_left, or_right}
use Rattle.rule.specs.Job.{Job, in_date}
use Rattle.books.specs.Rule.{Rule, valid}
use Rattle.books.specs.Rival.{Setting, Rival}
use Rattle.books.specs.NoRegretRule.{keeps_at, busy_at, Busy, Keeps}
use Rattle.books.proofs.Walks.Tickets.{rising_above}
use Rattle.books.proofs.Walks.Left.{Left}
use Rattle.books.proofs.Walks.GoesOn.{goes_start}
use Rattle.books.proofs.Walks.Closings.{each_weaker}
use Rattle.books.proofs.Runs.Kept.{Kept, idle, bake, kept, after_left}
use Rattle.books.proofs.Runs.AnyRun.{found_valid}
use Rattle.books.proofs.Levels.Rivals.{rival_keeps}

busy : (d s h : ℕ) (left : List Job) (x : ℕ) → Left h left → Kept 0 d s left x → busy_at s left (valid s left x) ≡ true
unfolding busy_at
busy d s h left x l (idle n e) = or_left (not (has (in_date s) left)) (not (eqb (valid s left x) 0)) (ap not n)
busy d s h left x l (bake p m e) =
    or_right (not (has (in_date s) left)) (not (eqb (valid s left x) 0))
    (ap not (ne_eqb (valid s left x) 0 (λ z. omega (arith, rising_above l.rising (after_left 0 d s left m).0, found_valid s left x p e))))

pub never_idle : (S : Setting) (q : Rule) → Rival S q → Busy S q
unfolding Busy
never_idle S q R B T =
    let d = S.depth in
    let b = B.beginning in
    each_weaker (goes_start T) q d b (keeps_at 0 d) busy_at (λ s h left x l e. busy d s h left x l (kept 0 d s h left x l e)) (unfold Keeps in rival_keeps S q R B T)

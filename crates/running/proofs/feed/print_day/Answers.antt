-- `print_day`: the tally of an open board.
use mathlib.Core.Path.{◌≡◌, refl, sym, ap, ◌∙◌}
use mathlib.Core.Option.{some}
use Prim.Native.Nat.{ℕ, ◌≤◌, ◌^◌}
use native.Mathlib.Omega.{arith}
use Rattle.std.specs.Prelude.{Option, Some, None}
use Rattle.board.specs.declared.Tally.{Tally}
use Rattle.board.specs.Limits.{deepest}
use Rattle.board.proofs.Soundness.Apart.{facts}
use Rattle.board.proofs.Tallies.CountAt.{grades_counted}
use Rattle.board.proofs.Grades.{grades_of}
use Rattle.lines.specs.Bytes.{Bytes}
use Rattle.lines.specs.Output.{printed_tally, at_end}
use Rattle.buffer.specs.Puts.{PutWithin}
use Rattle.buffer.proofs.Fitting.{fits_put}
use Rattle.buffer.proofs.Pieces.{put_as, put_nil}
use Rattle.tallies.specs.Room.{tally_room}
use Rattle.tallies.proofs.Fitting.{tally_fitting}
use Rattle.packing.specs.declared.Packed.{Packed}
use Rattle.packing.specs.Inner.Packed.{board_in, board_of}
use Rattle.session.specs.Inner.Days.{board_held, session_of}
use Rattle.session.proofs.Requests.{good_open}
use Rattle.running.proofs.feed.print_day.Goals as goal

-- no board: nothing is printed
none_put : (h : Option Packed) (t : Tally) (out : Bytes) (at : ℕ) → ((p : Packed) → h ≡ Some p → ⊥) → PutWithin tally_room (at_end (board_held h) t) out at at out
unfolding at_end
none_put None t out at n = put_nil tally_room out at
none_put (Some p) t out at n = absurd (n p refl)

pub returns-in_default : goal.returns-in_default
unfolding session_of
returns-in_default c = none_put c.args.day.now.board c.args.day.now.tally c.args.out.now c.args.at c.in_default.not-Some

pub returns : goal.returns
unfolding session_of at_end deepest board_in
returns c =
    let d = c.args.day.now in
    let p = c.in-Some.board in
    let b = board_of p in
    let shallow : b.depth ≤ deepest = (facts b (good_open d p c.requires.good_day c.in-Some.is)).shallow in
    let grades : c.grade_count-grades.result ≡ 2 ^ b.depth = c.grade_count-grades.ensures ∙ grades_of _ shallow in
    put_as
    (ap (λ (h : Option Packed). at_end (board_held h) d.tally) c.in-Some.is ∙ ap (λ (k : ℕ). printed_tally k 0 d.tally) (sym grades))
    (fits_put _ (tally_fitting _ _ _ (omega (arith, grades, grades_counted shallow)) c.requires.has_room) c.print_tally.ensures)

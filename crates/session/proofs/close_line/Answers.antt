-- Refused, or the next board, the jobs given up and the events.
use mathlib.Core.Path.{◌≡◌, refl, sym, ap, ◌∙◌}
use mathlib.Core.Bool.{true}
use mathlib.Core.List.{map}
use Prim.Native.Nat.{◌≤◌}
use native.Mathlib.Omega.{arith}
use lib.ListN.{length, take}
use lib.Seq.{length-take-le}
use Rattle.std.specs.Prelude.{Ok}
use Rattle.std.proofs.lemmas.Result.{err_from_is_err_and}
use Rattle.board.specs.declared.Tally.{Tally}
use Rattle.board.specs.declared.Closed.{Closed}
use Rattle.board.specs.Limits.{places_held}
use Rattle.board.specs.Sound.{sound}
use Rattle.board.specs.Close.{closed}
use Rattle.board.specs.Events.{given_up_kind, event, fed}
use Rattle.board.specs.Lent.{Lent}
use Rattle.packing.specs.Inner.Packed.{board_in, board_of}
use Rattle.closing.specs.Inner.Answered.{closed_answer}
use Rattle.closing.specs.Inner.InLimits.{ClosedInLimits}
use Rattle.closing.proofs.OnSound.{meets_on_sound}
use Rattle.session.specs.Inner.Days.{Room}
use Rattle.session.proofs.Entries.{entered, entry_count_full}
use Rattle.session.proofs.Listed.{in_grades_lent}
use Rattle.session.proofs.Closings.{close_did}
use Rattle.session.proofs.Refused.{close_err}
use Rattle.session.proofs.close_line.Goals as goal
use Rattle.session.proofs.close_line.Goals.{Start, In_ok-c}

-- where the lists that are lent have an entry for every place, a closing of the open board, which is sound, is 01's
full : (o : Start) (after : Lent) (x : Closed) → let a = o.args in let before : Lent = record { tickets = a.expired.now; grades = a.grades.now; slots = a.slots.now } in
    sound (board_of a.board.now) ≡ true → Room a.expired.now a.grades.now a.slots.now → ClosedInLimits (board_of a.board.now) before after x
    → x ≡ closed (board_of a.board.now) places_held
full o after x s p m =
    (meets_on_sound _ _ _ _ s m).answer ∙ ap (closed (board_of o.args.board.now)) (entry_count_full _ _ _ p.0 p.1 p.2)

pub returns-in_err-c : goal.returns-in_err-c
returns-in_err-c c s p =
    let q = err_from_is_err_and c.from_residual.result c.from_residual.ensures.1 in
    rw (q.1, q.2) (close_err _ c.args.board.now c.close_packed.new.b c.args.tally.now s (full (goal.at.returns-in_err-c c).Start _ _ s p c.in_err-c.ensures) _ _)

-- whatever board it is, the jobs listed are in the lists
in_grades : (o : In_ok-c) → o.in_ok-c.c.listed ≤ length o.close_packed.new.grades
unfolding closed_answer
in_grades o =
    omega (arith, in_grades_lent _ _ _ (closed_answer (Ok o.in_ok-c.c) (board_of o.close_packed.new.b)) o.in_ok-c.ensures refl, o.close_packed.auto.grades)

pub slice_bounds-count_given_up-end : goal.slice_bounds-count_given_up-end
slice_bounds-count_given_up-end c = in_grades (goal.at.slice_bounds-count_given_up-end c).In_ok-c

pub slice_bounds-count_given_up-end-2 : goal.slice_bounds-count_given_up-end-2
slice_bounds-count_given_up-end-2 c = sym (length-take-le _ _ (in_grades (goal.at.slice_bounds-count_given_up-end-2 c).In_ok-c))

pub returns : goal.returns
unfolding closed_answer board_in
returns c s p =
    let a = c.args in
    let x = closed_answer (Ok c.in_ok-c.c) (board_of c.close_packed.new.b) in
    let grades = take c.in_ok-c.c.listed c.close_packed.new.grades in
    close_did a.board.now a.tally.now x (full (goal.at.returns c).Start _ x s p c.in_ok-c.ensures) _ _ c.close_packed.new.b c.count_given_up.new.tally s refl
    (entered _ _ _ x s (meets_on_sound _ _ _ _ s c.in_ok-c.ensures) refl) refl
    (c.count_given_up.ensures ∙ ap (λ (t : Tally). fed t (map (event given_up_kind) grades)) c.count_baked.ensures)

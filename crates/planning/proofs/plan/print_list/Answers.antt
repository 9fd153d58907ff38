-- A refusal, or the slots of the best day.
use mathlib.Core.Path.{◌≡◌, refl, sym, ap, ◌∙◌}
use Prim.Native.Nat.{◌≤◌}
use native.Mathlib.Omega.{arith}
use borrow.Author.Rules.{rules}
use borrow.Author.Tests.{leb-true}
use lib.ListN.{length-take}
use Rattle.std.specs.Prelude.{Option as Perhaps, Some, None}
use Rattle.lines.specs.Bytes.{Bytes}
use Rattle.printing.specs.Lines.{room}
use Rattle.buffer.proofs.Fitting.{put_fits, put_nothing}
use Rattle.buffer.proofs.Pieces.{put_as}
use Rattle.matching.specs.declared.BestDay.{BestDay}
use Rattle.matching.specs.Windows.{most_jobs}
use Rattle.matching.specs.Answer.{best_day}
use Rattle.worklist.specs.declared.Refused.{Refused}
use Rattle.worklist.specs.declared.Collected.{Collected}
use Rattle.worklist.specs.Output.{printed_plan, printed_list, list_output}
use Rattle.worklist.specs.Inner.Collecting.{as_refusal, CollectedFrom, refused_by_call}
use Rattle.worklist.specs.Refusals.{or_else}
use Rattle.worklist.proofs.ByCall.{not_over}
use Rattle.worklist.proofs.Answering.{printed_found, call_passed}
use Rattle.planning.specs.Room.{plan_room}
use Rattle.planning.proofs.Baked.{plan_taken}
use Rattle.planning.proofs.plan.print_list.Goals as goal
use Rattle.planning.proofs.plan.print_list.Goals.{In-None}

-- the line that is refused is known
module _ (input : Bytes) (collected : Collected) (from : CollectedFrom input collected) (b : BestDay) (day : b ≡ best_day collected.jobs) (r : Perhaps Refused)
    (found : as_refusal r ≡ or_else (as_refusal collected.refused) (refused_by_call b.refusal collected.jobs)) where
  refused : as_refusal r ≡ or_else (as_refusal collected.refused) (refused_by_call (best_day collected.jobs).refusal collected.jobs)
  refused = found ∙ ap (λ (b : BestDay). or_else (as_refusal collected.refused) (refused_by_call b.refusal collected.jobs)) day

  whole : list_output input ≡ printed_list (as_refusal r) collected.jobs
  whole = printed_found input collected from ∙ ap (λ o. printed_list o collected.jobs) (sym refused)

  -- nothing is refused
  module _ (z : r ≡ None) where
    few : collected.jobs.count ≤ most_jobs
    few = not_over collected.jobs (call_passed (as_refusal collected.refused) (best_day collected.jobs).refusal collected.jobs (sym (ap as_refusal z) ∙ refused))

    plan : list_output input ≡ printed_plan collected.jobs.count b.slots
    unfolding printed_list
    plan = whole ∙ ap (λ o. printed_list (as_refusal o) collected.jobs) z ∙ ap (λ (b : BestDay). printed_plan collected.jobs.count b.slots) (sym day)

pub returns-then-not-room_for : goal.returns-then-not-room_for
unfolding plan_room room
returns-then-not-room_for c = put_nothing _ _ _ _ _ (sym c.room_for.ensures ∙ c.if-not-room_for.true)

pub print_refused-requires : goal.print_refused-requires
unfolding plan_room room
print_refused-requires c = leb-true _ _ (sym c.room_for.ensures ∙ c.if-not-room_for.false)

-- what was printed is looked for and not named, so that another print there lacks the fact
pub returns-in-Some : goal.returns-in-Some
unfolding plan_room room printed_list
returns-in-Some c =
    let w = whole _ _ c.collect-collected.ensures _ c.find_best_day-day.ensures (Some c.in-Some.refused) c.in-Some.ensures in
    put_fits _ (sym c.room_for.ensures ∙ c.if-not-room_for.false) (put_as w (search rules))

-- the jobs are no more than there are slots
within : (c : In-None) → c.collect-collected.result.jobs.count ≤ most_jobs
within c = few _ _ c.collect-collected.ensures _ c.find_best_day-day.ensures None c.in-None.ensures refl

pub shared_ref_as_front-print_plan : goal.shared_ref_as_front-print_plan
shared_ref_as_front-print_plan c = omega (arith, within (goal.at.shared_ref_as_front-print_plan c).In-None)

pub print_plan-requires : goal.print_plan-requires
unfolding plan_room room
print_plan-requires c =
    let w = within (goal.at.print_plan-requires c).In-None in
    (omega (arith, w, length-take c.collect-collected.result.jobs.count c.find_best_day-day.result.slots), leb-true _ _ (sym c.room_for.ensures ∙ c.if-not-room_for.false))

pub returns-in-None : goal.returns-in-None
unfolding plan_room room
returns-in-None c =
    let w = within (goal.at.returns-in-None c).In-None in
    let p = plan _ _ c.collect-collected.ensures _ c.find_best_day-day.ensures None c.in-None.ensures refl in
    let t = plan_taken c.find_best_day-day.result.slots c.collect-collected.result.jobs.count (omega (arith, w)) in
    put_fits _ (sym c.room_for.ensures ∙ c.if-not-room_for.false) (put_as (p ∙ sym t) c.print_plan.ensures)

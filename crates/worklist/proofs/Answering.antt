-- What is printed of a list, by what is collected of it.
use mathlib.Core.Path.{◌≡◌, refl, sym, ap, ap₂, ◌∙◌}
use mathlib.Core.List.{List}
use mathlib.Core.Option.{Option, none, some}
use Prim.Native.Nat.{ℕ, zero, suc}
use Rattle.std.specs.Prelude.{Option as Perhaps, Some, None}
use Rattle.lines.specs.Bytes.{Bytes, lines}
use Rattle.matching.specs.declared.Jobs.{Jobs}
use Rattle.matching.specs.declared.BestDay.{BestDay}
use Rattle.matching.specs.Answer.{best_day}
use Rattle.worklist.specs.declared.Refused.{Refused}
use Rattle.worklist.specs.declared.Collected.{Collected}
use Rattle.worklist.specs.Refusals.{or_else, call_refused, refused_in}
use Rattle.worklist.specs.Output.{jobs_in, printed_plan, printed_list, list_output}
use Rattle.worklist.specs.Inner.Collecting.{as_refusal, CollectedFrom, refused_by_call}
use Rattle.worklist.proofs.ByCall.{by_call, count_in, day_in}

module _ (input : Bytes) (c : Collected) (f : CollectedFrom input c) where
  abbrev ls : List Bytes
  ls = lines input

  refused : refused_in ls ≡ or_else (as_refusal c.refused) (call_refused ls)
  unfolding refused_in
  refused = ap (λ o. or_else o (call_refused ls)) (sym f.refused)

  -- none is refused by rows 11, 13 and 14
  by_number : c.refused ≡ None → call_refused ls ≡ refused_by_call (best_day c.jobs).refusal c.jobs
  by_number z = by_call ls c.jobs (f.gathered z)

  -- what the code answers: the line refused in reading, or else the one of the call
  abbrev found : Option Refused
  found = or_else (as_refusal c.refused) (refused_by_call (best_day c.jobs).refusal c.jobs)

  pub printed_found : list_output input ≡ printed_list found c.jobs
  unfolding list_output or_else refused_by_call printed_list jobs_in
  printed_found = ap (λ o. printed_list o (jobs_in ls)) refused ∙ read c.refused refl
    where
      called : (n : ℕ) → n ≡ (best_day c.jobs).refusal → c.refused ≡ None
          → printed_list (refused_by_call n c.jobs) (jobs_in ls) ≡ printed_list (refused_by_call n c.jobs) c.jobs
      called zero e z =
          ap₂ (λ (n : ℕ) (b : BestDay). printed_plan n b.slots) (sym (count_in ls c.jobs (f.gathered z) (sym e))) (sym (day_in ls c.jobs (f.gathered z) (sym e)))
      called (suc n) e z = refl

      read : (o : Perhaps Refused) → c.refused ≡ o
          → printed_list (or_else (as_refusal o) (call_refused ls)) (jobs_in ls)
          ≡ printed_list (or_else (as_refusal o) (refused_by_call (best_day c.jobs).refusal c.jobs)) c.jobs
      read None e = ap (λ o. printed_list o (jobs_in ls)) (by_number e) ∙ called (best_day c.jobs).refusal refl e
      read (Some r) e = refl

-- the call refuses nothing where there is no refusal
pub call_passed : (o : Option Refused) (n : ℕ) (d : Jobs) → none ≡ or_else o (refused_by_call n d) → n ≡ 0
unfolding or_else refused_by_call
call_passed o zero d e = refl
call_passed none (suc n) d e = cc
call_passed (some r) (suc n) d e = cc

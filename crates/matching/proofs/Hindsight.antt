-- What is proved of the best day in hindsight, put together.
use lib.ListN.{length}
use Rattle.matching.specs.Hindsight.{BestInHindsight}
use Rattle.matching.proofs.Choice.Planned.{fit_assigned, assigned_fit}
use Rattle.matching.proofs.Laying.Next.{next_found}
use Rattle.matching.proofs.Best.Only.{best, bakes_chosen, only_choice, zero_past}
use Rattle.matching.proofs.Best.Answered.{answered}

pub best_in_hindsight : BestInHindsight
best_in_hindsight =
    record {
      of_jobs = λ ws few ok. record {
        fit_assigned = fit_assigned ws few ok;
        assigned_fit = assigned_fit ws few ok;
        best = best ws few ok;
        bakes_chosen = bakes_chosen ws few ok;
        only_choice = only_choice ws few ok;
        next = λ waiting slot. next_found ws waiting slot (length ws) few;
        zero_past = zero_past ws few ok;
      };
      answered = answered;
    }

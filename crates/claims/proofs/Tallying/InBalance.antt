-- The balance of the tally over a run: no event is refused, and for each grade what was admitted was baked, given up, withdrawn or is on the board.
use mathlib.Core.Path.{◌≡◌, ap}
use mathlib.Core.Bool.{true}
use mathlib.Core.List.{List, [], ◌∷◌}
use Prim.Native.Nat.{ℕ, ◌*◌, ◌≤◌}
use native.Mathlib.Omega.{arith}
use lib.Dec.{eqb}
use lib.ListN.{length-replicate}
use Rattle.lists.specs.Select.{how_many}
use Rattle.rule.specs.Job.{Job}
use Rattle.board.specs.declared.Board.{Board}
use Rattle.board.specs.Sound.{sound}
use Rattle.board.specs.Tally.{tally_kinds, tally_grades, tally_most, zero_tally, count_at}
use Rattle.board.specs.Events.{admitted_kind, baked_kind, given_up_kind, withdrawn_kind, Event, fed}
use Rattle.board.proofs.Soundness.Facts.{SoundFacts}
use Rattle.board.proofs.Soundness.HeldCount.{no_jobs}
use Rattle.board.proofs.Soundness.Apart.{facts}
use Rattle.board.proofs.Tallies.CountAt.{Cell, zero_count}
use Rattle.board.proofs.Tallies.Kinds.{each_kind, admitted_cell, baked_cell, given_up_cell, withdrawn_cell}
use Rattle.board.proofs.Tallies.FedCounts.{times, FedFacts, fed_facts}
use Rattle.claims.specs.Calls.{Call, admit, close, withdraw, board_after}
use Rattle.claims.specs.Balance.{events_of, board_after_all, all_events, tally_after_all, on_board, Balance}
use Rattle.claims.proofs.Tallying.RunFacts.{still, Leads, leads_nowhere, leads_on}
use Rattle.claims.proofs.Tallying.AdmitFacts.{admit_leads}
use Rattle.claims.proofs.Tallying.CloseFacts.{close_leads}
use Rattle.claims.proofs.Tallying.WithdrawFacts.{withdraw_leads}

-- no more jobs than a count may have can be admitted in a run
at_most : (b : Board) → SoundFacts b → still b ≤ tally_most
unfolding still tally_most
at_most b f = omega (arith, f.from_first)

none_yet : (b : Board) → b.count ≡ 0 → (g : ℕ) → on_board g b ≡ 0
unfolding on_board how_many
none_yet b empty g = ap (how_many (λ (r : Job). eqb r.grade g)) (no_jobs b empty)

-- events that lead from an empty board to another
module _ {b c : Board} {es : List Event} (s : sound b ≡ true) (empty : b.count ≡ 0) (run : Leads b es c) where
  below : (k g : ℕ) → Cell k g → times k g es ≤ tally_most
  below k g =
      each_kind (λ n. times n g es ≤ tally_most)
      (omega (arith, run.intake g, at_most b (facts b s)))
      (omega (arith, run.intake g, run.balance g, none_yet b empty g, at_most b (facts b s)))
      (omega (arith, run.intake g, run.balance g, none_yet b empty g, at_most b (facts b s)))
      (omega (arith, run.intake g, run.balance g, none_yet b empty g, at_most b (facts b s))) k g

  pub fed_run : FedFacts zero_tally es
  unfolding zero_tally
  fed_run = fed_facts zero_tally es (length-replicate {A = ℕ} (tally_kinds * tally_grades) 0) run.cells (λ k g h. omega (arith, below k g h, zero_count k g h))

  fed_at : (k g : ℕ) → Cell k g → count_at (fed zero_tally es) k g ≡ times k g es
  fed_at k g h = omega (arith, fed_run.counts k g h, zero_count k g h)

call_leads : (b : Board) (c : Call) → sound b ≡ true → Leads b (events_of b c) (board_after b c)
unfolding events_of board_after
call_leads b (admit t w g) s = admit_leads b t w g s
call_leads b (close lent) s = close_leads b lent s
call_leads b (withdraw t) s = withdraw_leads b t s

run_leads : (b : Board) (cs : List Call) → sound b ≡ true → Leads b (all_events b cs) (board_after_all b cs)
unfolding all_events board_after_all
run_leads b [] s = leads_nowhere b s
run_leads b (c ∷ cs) s =
    let first = call_leads b c s in
    leads_on first (run_leads (board_after b c) cs first.is_sound)

pub balance : Balance
unfolding Balance tally_after_all
balance b s empty cs =
    let run = run_leads b cs s in
    record {
      taken = (fed_run s empty run).none_refused;
      balance = λ g h.
          omega (
            arith,
            run.balance g,
            none_yet b empty g,
            fed_at s empty run admitted_kind g (admitted_cell h),
            fed_at s empty run baked_kind g (baked_cell h),
            fed_at s empty run given_up_kind g (given_up_cell h),
            fed_at s empty run withdrawn_kind g (withdrawn_cell h),
          );
    }

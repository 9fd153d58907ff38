-- The steps of the calls: their numbers may be met, and what holds between two lines holds after them.
use mathlib.Core.Path.{◌≡◌, refl, sym, ap, subst}
use mathlib.Core.Bool.{Bool, true, false, cond}
use mathlib.Core.List.{List, ◌∷◌}
use mathlib.Core.Option.{Option, some}
use Prim.Native.Nat.{ℕ}
use lib.Dec.{eqb}
use borrow.Author.Tests.{eqb-true}
use Rattle.lists.specs.Select.{every}
use Rattle.lists.proofs.Tests.{and_intro}
use Rattle.lists.proofs.Members.{every_mem, mem_every}
use Rattle.board.specs.declared.Board.{Board}
use Rattle.board.specs.declared.Tally.{Tally}
use Rattle.board.specs.Limits.{places_held}
use Rattle.board.specs.Open.{opened}
use Rattle.board.specs.Admit.{admitted}
use Rattle.board.specs.Close.{closed}
use Rattle.board.specs.Promise.{promised}
use Rattle.board.specs.Withdraw.{withdrawn}
use Rattle.board.specs.Tally.{zero_tally}
use Rattle.board.specs.Events.{Event, event_numbers, all_taken, fed}
use Rattle.claims.proofs.Tallying.AdmitFacts.{admit_leads}
use Rattle.claims.proofs.Tallying.CloseFacts.{close_leads}
use Rattle.claims.proofs.Tallying.WithdrawFacts.{withdraw_leads}
use Rattle.lines.specs.Session.{Step, step_refused, step_open, step_admit, step_close, step_promise, step_withdraw}
use Rattle.lines.specs.NeverMet.{number_of, step_numbers}
use Rattle.lines.proofs.NeverMet.Between.{Reached, InRun, reached_opened, reached_taken, reached_on}
use Rattle.lines.proofs.NeverMet.MayMeet.{may_meet, opened_shallow, may_open, may_admit, may_close, may_promise, may_withdraw}

-- the numbers met at a step may be met, and what holds between two lines holds after it
pub record Goes (y : Tally) (a : Step) : Type 0 where
  pub met : every may_meet (step_numbers y a) ≡ true
  pub after : InRun a.board (fed y a.events)

pub goes_refused : (o : Option Board) (y : Tally) (n : ℕ) → InRun o y → may_meet n ≡ true → Goes y (step_refused o n)
unfolding step_refused step_numbers number_of event_numbers fed every
goes_refused o y n h m = record { met = and_intro (may_meet n) true m refl; after = h }

-- 0 may be met: an answer's that is no refusal, and the tally's for events that are taken
taken_met : (y : Tally) (es : List Event) → all_taken y es ≡ true → every may_meet (0 ∷ event_numbers y es) ≡ true
unfolding every all_taken
taken_met y es t = mem_every may_meet (event_numbers y es) (λ x i. ap may_meet (eqb-true x 0 (every_mem (λ k. eqb k 0) t i)))

-- a call that is let through, or a refusal
either : (y : Tally) (n : ℕ) (a r : Step) → (n ≡ 0 → Goes y a) → Goes y r → Goes y (cond (eqb n 0) a r)
either y n a r yes_goes no_goes = go (eqb n 0) (eqb-true n 0)
  where
    go : (c : Bool) → (c ≡ true → n ≡ 0) → Goes y (cond c a r)
    go true f = yes_goes (f refl)
    go false f = no_goes

pub goes_open : (o : Option Board) (y : Tally) → InRun o y → y ≡ zero_tally → (d : ℕ) → Goes y (step_open o d)
unfolding step_open step_numbers number_of event_numbers fed every InRun
goes_open o y h z d =
    either y (opened d).refusal _ _
    (λ e. record { met = refl; after = subst (Reached (opened d).board) (sym z) (reached_opened d (opened_shallow d e)) })
    (goes_refused o y (opened d).refusal h (may_open d))

module _ (b : Board) (y : Tally) (r : Reached b y) where
  pub goes_admit : (t w g : ℕ) → Goes y (step_admit b t w g)
  unfolding step_admit step_numbers number_of InRun
  goes_admit t w g =
      let l = admit_leads b t w g r.leads.is_sound in
      either y (admitted b t w g).refusal _ _ (λ e. record { met = taken_met y _ (reached_taken r l); after = reached_on r l })
      (goes_refused (some b) y (admitted b t w g).refusal r (may_admit b t w g r.leads.is_sound))

  pub goes_close : Goes y (step_close b)
  unfolding step_close step_numbers number_of InRun
  goes_close =
      let l = close_leads b places_held r.leads.is_sound in
      either y (closed b places_held).refusal _ _ (λ e. record { met = taken_met y _ (reached_taken r l); after = reached_on r l })
      (goes_refused (some b) y (closed b places_held).refusal r (may_close b r.leads.is_sound))

  pub goes_promise : Goes y (step_promise b)
  unfolding step_promise step_numbers number_of event_numbers fed every InRun
  goes_promise =
      either y (promised b).refusal _ _ (λ e. record { met = refl; after = r })
      (goes_refused (some b) y (promised b).refusal r (may_promise b r.leads.is_sound))

  pub goes_withdraw : (t : ℕ) → Goes y (step_withdraw b t)
  unfolding step_withdraw step_numbers number_of InRun
  goes_withdraw t =
      let l = withdraw_leads b t r.leads.is_sound in
      either y (withdrawn b t).refusal _ _ (λ e. record { met = taken_met y _ (reached_taken r l); after = reached_on r l })
      (goes_refused (some b) y (withdrawn b t).refusal r (may_withdraw b t r.leads.is_sound))

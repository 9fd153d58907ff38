-- What holds between two lines: no board is open and the tally is zero, or both come from events that lead there from a board that was opened.
use mathlib.Core.Path.{◌≡◌, refl, sym, ap, ◌∙◌, subst}
use mathlib.Core.Bool.{true}
use mathlib.Core.List.{List, [], ◌++◌}
use mathlib.Core.Option.{Option, none, some}
use Prim.Native.Nat.{ℕ, ◌≤◌}
use Rattle.board.specs.declared.Board.{Board}
use Rattle.board.specs.declared.Tally.{Tally}
use Rattle.board.specs.Limits.{deepest}
use Rattle.board.specs.Sound.{sound}
use Rattle.board.specs.Open.{opened}
use Rattle.board.specs.Tally.{zero_tally}
use Rattle.board.specs.Events.{Event, fed, all_taken}
use Rattle.board.proofs.Calls.SoundAfterOpening.{opened_sound, opened_count}
use Rattle.board.proofs.Tallies.Fed.{fed_append, taken_append}
use Rattle.claims.proofs.Tallying.RunFacts.{Leads, leads_nowhere, leads_on}
use Rattle.claims.proofs.Tallying.InBalance.{fed_run}

-- events lead to the board from a sound one without jobs, and the tally is a zero tally fed them
pub record Reached (b : Board) (y : Tally) : Type 0 where
  pub start : Board
  pub is_sound : sound start ≡ true
  pub empty : start.count ≡ 0
  pub events : List Event
  pub leads : Leads start events b
  pub tally : y ≡ fed zero_tally events

unfoldable pub InRun : Option Board → Tally → Type 0
InRun none y = y ≡ zero_tally
InRun (some b) y = Reached b y

pub reached_opened : (d : ℕ) → d ≤ deepest → Reached (opened d).board zero_tally
unfolding fed
reached_opened d h =
    record {
      start = (opened d).board;
      is_sound = opened_sound d h;
      empty = opened_count d h;
      events = [];
      leads = leads_nowhere (opened d).board (opened_sound d h);
      tally = refl;
    }

module _ {b c : Board} {y : Tally} {es : List Event} (r : Reached b y) (l : Leads b es c) where
  -- the tally refuses no event that leads on
  pub reached_taken : all_taken y es ≡ true
  reached_taken =
      subst (λ x. all_taken x es ≡ true) (sym r.tally)
      (taken_append zero_tally r.events es (fed_run r.is_sound r.empty (leads_on r.leads l)).none_refused)

  pub reached_on : Reached c (fed y es)
  reached_on =
      record {
        start = r.start;
        is_sound = r.is_sound;
        empty = r.empty;
        events = r.events ++ es;
        leads = leads_on r.leads l;
        tally = ap (λ x. fed x es) r.tally ∙ sym (fed_append zero_tally r.events es);
      }

-- The tally's events: 'takes in one event at a time: kind 0 admitted, 1 baked, 2 given up, with a grade'. 02, Seven: 'kind 3, withdrawn'.
use Rattle.std.specs.Prelude.{Bool, cond, List, [], ◌∷◌, ◌++◌, map, ℕ, eqb}
use Rattle.lists.specs.Select.{every}
use Rattle.rule.specs.Job.{Job}
use Rattle.board.specs.declared.Board.{Board}
use Rattle.board.specs.declared.Tally.{Tally}
use Rattle.board.specs.Rows.{unless_refused}
use Rattle.board.specs.Admit.{admitted}
use Rattle.board.specs.Close.{closed, given_up}
use Rattle.board.specs.Withdraw.{withdrawn}
use Rattle.board.specs.Tally.{counted}

unfoldable pub admitted_kind : ℕ
admitted_kind = 0

unfoldable pub baked_kind : ℕ
baked_kind = 1

unfoldable pub given_up_kind : ℕ
given_up_kind = 2

unfoldable pub withdrawn_kind : ℕ
withdrawn_kind = 3

pub record Event : Type 0 where
  pub kind : ℕ
  pub grade : ℕ

abbrev pub event : (kind grade : ℕ) → Event
event k g = record { kind = k; grade = g }

-- The events of an admitting; a call that is refused has none.
unfoldable pub admit_events : Board → (ticket laxity grade : ℕ) → List Event
admit_events b t w g = unless_refused (admitted b t w g).refusal (event admitted_kind g ∷ [])

-- an answer that names a job has it baked; 'empty', whose ticket is 0, is no event
unfoldable pub baked_events : (ticket grade : ℕ) → List Event
baked_events t g = cond (eqb t 0) [] (event baked_kind g ∷ [])

-- each job given up is one
unfoldable pub given_up_events : List Job → List Event
given_up_events A = map (λ (r : Job). event given_up_kind r.grade) A

-- the events of a closing
unfoldable pub close_events : Board → (lent : ℕ) → List Event
close_events b lent = let r = closed b lent in unless_refused r.refusal (baked_events r.ticket r.grade ++ given_up_events (given_up b))

-- the event of a withdrawal
unfoldable pub withdraw_events : Board → (ticket : ℕ) → List Event
withdraw_events b t = let r = withdrawn b t in unless_refused r.refusal (event withdrawn_kind r.grade ∷ [])

-- a tally fed events, one after the other
unfoldable pub fed : Tally → List Event → Tally
fed t [] = t
fed t (e ∷ es) = fed (counted t e.kind e.grade).tally es

-- the number that it gives to each of them, 0 where it takes the event in
unfoldable pub event_numbers : Tally → List Event → List ℕ
event_numbers t [] = []
event_numbers t (e ∷ es) = let r = counted t e.kind e.grade in r.refusal ∷ event_numbers r.tally es

-- it refuses none
unfoldable pub all_taken : Tally → List Event → Bool
all_taken t es = every (λ n. eqb n 0) (event_numbers t es)

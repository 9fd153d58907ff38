-- The jobs on the board that admitting, closing or withdrawing hands back.
use mathlib.Core.Path.{◌≡◌, ap, ◌∙◌}
use mathlib.Core.Bool.{Bool, not}
use mathlib.Core.List.{[], ◌∷◌, ◌++◌, map, map-append}
use Prim.Native.Nat.{ℕ, ◌+◌, ◌-◌, ◌<◌}
use native.Mathlib.Numerals.{add-one}
use lib.Dec.{eqb}
use lib.ListN.{length, replicate}
use lib.Seq.{take-suc-set, take-append_seam}
use Rattle.lists.specs.Select.{select}
use Rattle.rule.specs.Job.{Job, job}
use Rattle.rule.specs.Bake.{stays}
use Rattle.board.specs.declared.Place.{Place}
use Rattle.board.specs.declared.Board.{Board}
use Rattle.board.specs.Limits.{places_held}
use Rattle.board.specs.Held.{slot_of, slot_number, job_in, blank, used, held, passing, thinned}
use Rattle.board.specs.Admit.{last_of, with_job}
use Rattle.board.specs.Close.{moved_on_with}
use Rattle.board.specs.Withdraw.{without_ticket}
use Rattle.lists.proofs.Parts.{select_map}

-- the place of a new job
abbrev pub new_place : Board → (ticket laxity grade : ℕ) → Place
new_place b t w g = record { ticket = t; admitted = b.slot; last = slot_number (last_of b w); grade = g }

pub used_with_job : (b : Board) (t w g : ℕ) → b.count < length b.places → used (with_job b t w g) ≡ used b ++ (new_place b t w g ∷ [])
unfolding used with_job
used_with_job b t w g h = rw add-one (take-suc-set b.places b.count (new_place b t w g) h)

pub held_with_job : (b : Board) (t w g : ℕ) → b.count < length b.places → held (with_job b t w g) ≡ held b ++ (job t (slot_of b) w g ∷ [])
unfolding held job_in job last_of
held_with_job b t w g h = ap (map job_in) (used_with_job b t w g h) ∙ map-append job_in (used b) (new_place b t w g ∷ [])

pub held_thinned : (b : Board) (k : ℕ) (test : Job → Bool) → held (thinned b k test) ≡ select test (held b)
unfolding held used thinned passing
held_thinned b k test =
    ap (map job_in) (take-append_seam (passing b test) (replicate (places_held - length (passing b test)) blank)) ∙ select_map job_in test (used b)

pub held_moved_on : (b : Board) (t : ℕ) → held (moved_on_with b t) ≡ select (stays (slot_of b) t) (held b)
unfolding moved_on_with
held_moved_on b t = held_thinned b (slot_of b + 1) (stays (slot_of b) t)

pub held_without : (b : Board) (t : ℕ) → held (without_ticket b t) ≡ select (λ (r : Job). not (eqb r.ticket t)) (held b)
unfolding without_ticket
held_without b t = held_thinned b _ _

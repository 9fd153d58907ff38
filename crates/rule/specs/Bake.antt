-- The job that a slot bakes, the jobs that expire with it, and those that are left.
use Rattle.std.specs.Prelude.{Bool, cond, not, ◌&&◌, ◌||◌, List, [], ◌∷◌, ℕ, leb, ltb, eqb}
use Rattle.std.proofs.Math.Option.{Option, none, some}
use Rattle.rule.specs.Job.{Job}
use Rattle.rule.specs.Descent.{no_regret}

-- 'the least last slot, on ties the lowest ticket'
unfoldable pub sooner : Job → Job → Bool
sooner r q = ltb r.last q.last || (eqb r.last q.last && leb r.ticket q.ticket)

unfoldable pub soonest_of : Job → Option Job → Job
soonest_of r none = r
soonest_of r (some q) = cond (sooner r q) r q

unfoldable pub soonest : List Job → Option Job
soonest [] = none
soonest (r ∷ A) = some (soonest_of r (soonest A))

-- 'Bake from it the rack with the least last slot, on ties the lowest ticket.'
unfoldable pub baked : (now d : ℕ) → List Job → Option Job
baked now d A = soonest (no_regret now d A)

-- ''Empty' is the answer only for a board with no racks; its ticket and grade are 0'
unfoldable pub ticket_of : Option Job → ℕ
ticket_of none = 0
ticket_of (some r) = r.ticket

unfoldable pub grade_of : Option Job → ℕ
grade_of none = 0
grade_of (some r) = r.grade

-- 'gives up every other rack whose last slot is the present one': the jobs that expire where the ticket t is baked, or none, which is ticket 0
unfoldable pub expires : (now t : ℕ) → Job → Bool
expires now t r = eqb r.last now && not (eqb r.ticket t)

-- the jobs that stay for the next slot
unfoldable pub stays : (now t : ℕ) → Job → Bool
stays now t r = ltb now r.last && not (eqb r.ticket t)

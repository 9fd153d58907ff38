-- A job: 01's rack. Its slots are plain numbers of the day book.
use Rattle.std.specs.Prelude.{Bool, List, ℕ, ◌+◌, ◌-◌, leb, eqb}
use Rattle.std.proofs.Math.Option.{Option}
use Rattle.lists.specs.Select.{find}

-- 'A rack has a ticket, the slot in which it was admitted, its last slot, and a grade.'
pub record Job : Type 0 where
  pub ticket : ℕ
  pub admitted : ℕ
  pub last : ℕ
  pub grade : ℕ

-- 'Admitted in slot k with wait w, its last slot is k + w − 1'
unfoldable pub job : (ticket slot laxity grade : ℕ) → Job
job t k w g = record { ticket = t; admitted = k; last = k + w - 1; grade = g }

-- Laxity is 000's word for 01's wait: 'in slot j its wait is last slot − j + 1.'
unfoldable pub laxity : ℕ → Job → ℕ
laxity j r = r.last + 1 - j

-- in slot j the job can still be baked
unfoldable pub in_date : ℕ → Job → Bool
in_date j r = leb j r.last

-- the job with a ticket, if one of the jobs has it
unfoldable pub with_ticket : ℕ → List Job → Option Job
with_ticket t A = find (λ (r : Job). eqb r.ticket t) A

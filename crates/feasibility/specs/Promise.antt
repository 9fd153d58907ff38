-- What can still be promised, by plans. 02, Six.
use Rattle.std.specs.Prelude.{◌≡◌, Bool, true, ◌&&◌, List, ℕ, ◌≤◌, ◌<◌, ltb}
use Rattle.lists.specs.Select.{every}
use Rattle.rule.specs.Job.{Job}
use Rattle.rule.specs.Promise.{with_further, least_promised}
use Rattle.feasibility.specs.PlanFrom.{waiting}
use Rattle.feasibility.specs.AllBaked.{AllBaked}

-- 'some plan from the present slot on bakes one further rack of wait w and every rack on the board, nobody else arriving, the book taken as endless'
abbrev pub CanPromise : (now : ℕ) → List Job → (ticket grade w : ℕ) → Type 0
CanPromise now A t g w = AllBaked now (with_further now A t w g)

-- a ticket for one job more: above all of these
unfoldable pub new_ticket : List Job → ℕ → Bool
new_ticket A t = ltb 0 t && every (λ (r : Job). ltb r.ticket t) A

-- 'there is no such wait'
abbrev pub NoPromise : (longest now : ℕ) → List Job → (ticket grade : ℕ) → Type 0
NoPromise longest now A t g = (v : ℕ) → 1 ≤ v → v ≤ longest → ¬ CanPromise now A t g v

-- w is the answer to 'What can we still promise?', for a further job of this ticket and grade
pub record StillPromised (longest now : ℕ) (A : List Job) (ticket grade w : ℕ) : Type 0 where
  -- 'w the least wait from 1 to' the longest 'such that some plan [..]'
  pub within : w ≤ longest
  pub kept : 1 ≤ w → CanPromise now A ticket grade w
  pub least : (v : ℕ) → 1 ≤ v → v < w → ¬ CanPromise now A ticket grade v
  -- 'It gives 0 if, and only if, there is no such wait.'
  pub zero_only_if : w ≡ 0 → NoPromise longest now A ticket grade
  pub zero_if : NoPromise longest now A ticket grade → w ≡ 0

-- The answer by the shortfall is that answer: in any slot, for any jobs and any longest wait, whatever the further job's ticket and grade.
unfoldable pub PromisedLeast : Type 0
PromisedLeast =
    (longest now : ℕ) (A : List Job) → waiting now A ≡ true → (ticket grade : ℕ) → new_ticket A ticket ≡ true
    → StillPromised longest now A ticket grade (least_promised longest now A)

-- What can be promised with one wait can be with a longer one.
unfoldable pub LongerToo : Type 0
LongerToo =
    (now : ℕ) (A : List Job) → waiting now A ≡ true → (ticket grade : ℕ) → new_ticket A ticket ≡ true
    → (v w : ℕ) → 1 ≤ v → v ≤ w → CanPromise now A ticket grade v → CanPromise now A ticket grade w

-- Excess, the tight laxity l* and the tight set of a set of jobs, in the present slot `now`.
use Rattle.std.specs.Prelude.{Bool, List, map, ℕ, leb, ℤ, pos, ◌-ℤ◌}
use Rattle.std.specs.Int.Signed.{le_z}
use Rattle.lists.specs.Select.{select, how_many, every}
use Rattle.lists.specs.Least.{least}
use Rattle.rule.specs.Job.{Job, laxity}

-- the laxities that some job has
unfoldable pub laxities : ℕ → List Job → List ℕ
laxities now A = map (laxity now) A

-- 'For a set of racks and a wait l that some rack in it has, the excess of l is l less the number of racks with wait l or less. It may be below zero'
unfoldable pub excess : ℕ → List Job → ℕ → ℤ
excess now A l = pos l -ℤ pos (how_many (λ r. leb (laxity now r) l) A)

-- no laxity that some job has, has a smaller excess than l
unfoldable pub smallest : ℕ → List Job → ℕ → Bool
smallest now A l = every (λ m. le_z (excess now A l) (excess now A m)) (laxities now A)

-- 'Let l* be the least wait whose excess is smallest.'
unfoldable pub tight_laxity : ℕ → List Job → ℕ
tight_laxity now A = least (select (smallest now A) (laxities now A))

-- 'The tight set is all racks with wait l* or less'
unfoldable pub tight : ℕ → List Job → List Job
tight now A = select (λ r. leb (laxity now r) (tight_laxity now A)) A

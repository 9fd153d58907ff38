-- The search by bits for the grade to bake, at any depth d, and the no-regret set.
use Rattle.std.specs.Prelude.{Bool, false, not, List, [], ◌∷◌, ◌++◌, ℕ, zero, suc}
use Rattle.lists.specs.Select.{has}
use Rattle.rule.specs.Job.{Job}
use Rattle.rule.specs.Grade.{graded, starting}
use Rattle.rule.specs.Tight.{tight}

-- 'Take the tight set of the racks whose grade starts with the bits so far. If one of its racks has next bit 0, add 0, otherwise add 1.'
unfoldable pub next_bit : (now d : ℕ) → List Job → List Bool → Bool
next_bit now d A u = not (has (graded d (u ++ (false ∷ []))) (tight now (starting d u A)))

-- 'The search goes down one bit at a time': n bits after the bits u
unfoldable pub descend : (now d : ℕ) → List Job → ℕ → List Bool → List Bool
descend now d A zero u = u
descend now d A (suc n) u = descend now d A n (u ++ (next_bit now d A u ∷ []))

-- 'Start with all racks on the board and no bits': the tight set after j bits
unfoldable pub no_regret_after : (now d j : ℕ) → List Job → List Job
no_regret_after now d j A = tight now (starting d (descend now d A j []) A)

-- 'until D bits are fixed. The tight set of the racks with exactly that grade is the no-regret set.'
unfoldable pub no_regret : (now d : ℕ) → List Job → List Job
no_regret now d A = no_regret_after now d d A

-- The place that is found is that of the rule's job.
use mathlib.Core.Path.{◌≡◌, refl, ap, ◌∙◌}
use mathlib.Core.Bool.{Bool, true, false, cond}
use mathlib.Core.List.{List, [], ◌∷◌, map}
use mathlib.Core.Option as rule
use Prim.Native.Nat.{ℕ}
use lib.Dec.{eqb}
use Rattle.std.proofs.Common.{Option, Some, None}
use Rattle.std.specs.List.{find}
use Rattle.lists.specs.Select as select
use Rattle.rule.specs.Job.{Job, with_ticket}
use Rattle.board.specs.declared.Place.{Place}
use Rattle.board.specs.Held.{job_in}

pub job_of : Option Place → rule.Option Job
job_of None = rule.none
job_of (Some p) = rule.some (job_in p)

pub sought : (t : ℕ) (l : List Place) → with_ticket t (map job_in l) ≡ job_of (find (λ (p : Place). eqb p.ticket t) l)
unfolding with_ticket select.find job_in job_of
sought t [] = refl
sought t (p ∷ l) = go (eqb p.ticket t) (sought t l)
  where
    go : (b : Bool) → with_ticket t (map job_in l) ≡ job_of (find (λ (q : Place). eqb q.ticket t) l)
        → cond b (rule.some (job_in p)) (with_ticket t (map job_in l)) ≡ job_of (cond b (Some p) (find (λ (q : Place). eqb q.ticket t) l))
    go true e = refl
    go false e = e

pub not_sought : (t : ℕ) (l : List Place) → find (λ (p : Place). eqb p.ticket t) l ≡ None → with_ticket t (map job_in l) ≡ rule.none
unfolding job_of
not_sought t l h = sought t l ∙ ap job_of h

pub sought_is : (t : ℕ) (l : List Place) (p : Place) → find (λ (q : Place). eqb q.ticket t) l ≡ Some p → with_ticket t (map job_in l) ≡ rule.some (job_in p)
unfolding job_of
sought_is t l p h = sought t l ∙ ap job_of h

-- What a baked ticket takes away: the job that has it, and no other.
use mathlib.Core.Path.{◌≡◌, refl, sym, ap, ◌∙◌, subst}
use mathlib.Core.Bool.{not}
use mathlib.Core.List.{List, ◌∷◌, Memᴰ}
use Prim.Native.Nat.{ℕ}
use native.Mathlib.Omega.{arith}
use lib.Dec.{eqb}
use borrow.Author.Tests.{eq-eqb, ne_eqb}
use Rattle.lists.proofs.Members.{select_yes, select_no, select_all}
use Rattle.lists.proofs.Less.{Less, here, there}
use Rattle.rule.specs.Job.{Job}
use Rattle.books.specs.Rule.{without}
use Rattle.books.proofs.Walks.Tickets.{Rising, rising_tail, rising_above}

-- a ticket that no job has takes nothing away
pub without_none : (t : ℕ) (L : List Job) → ((x : Job) → Memᴰ x L → x.ticket ≡ t → ⊥) → without t L ≡ L
unfolding without
without_none t L f = select_all (λ r. not (eqb r.ticket t)) L (λ x m. ap not (ne_eqb x.ticket t (f x m)))

pub without_head : (r : Job) (L : List Job) → without r.ticket (r ∷ L) ≡ without r.ticket L
unfolding without
without_head r L = select_no (λ x. not (eqb x.ticket r.ticket)) r L (ap not (eq-eqb r.ticket r.ticket refl))

pub without_tail : (t : ℕ) (r : Job) (L : List Job) → (r.ticket ≡ t → ⊥) → without t (r ∷ L) ≡ r ∷ without t L
unfolding without
without_tail t r L f = select_yes (λ x. not (eqb x.ticket t)) r L (ap not (ne_eqb r.ticket t f))

-- a job's ticket takes the job away and no other
pub without_less : {p : Job} {m : ℕ} {L : List Job} → Rising m L → Memᴰ p L → Less p L (without p.ticket L)
without_less {p = p} h (Memᴰ.head {x = r} {xs = L} e) =
    let gone : without r.ticket (r ∷ L) ≡ L =
    without_head r L ∙ without_none r.ticket L (λ x k q. omega (arith, rising_above (rising_tail h) k))
    in
    subst (λ (x : Job). Less x (r ∷ L) (without x.ticket (r ∷ L))) (sym e) (subst (λ (X : List Job). Less r (r ∷ L) X) (sym gone) here)
without_less {p = p} h (Memᴰ.tail {x = r} {xs = L} k) =
    subst (λ (X : List Job). Less p (r ∷ L) X) (sym (without_tail p.ticket r L (λ q. omega (arith, rising_above (rising_tail h) k))))
    (there (without_less (rising_tail h) k))

-- The soonest job of a list: there is none exactly in the empty list; else it is a member with the least last slot, on ties with the lowest ticket.
use mathlib.Core.Path.{◌≡◌, refl, sym, subst}
use mathlib.Core.Bool.{true, false, ◌&&◌, cond}
use mathlib.Core.Logic.{◌⊎◌, inl, inr, ⊎_elim}
use mathlib.Core.List.Memᴰ
use mathlib.Core.List.{List, [], ◌∷◌, Memᴰ}
use mathlib.Core.Option.{none, some, none-ne-some, some-ne-none}
use Prim.Native.Nat.{◌≤◌}
use native.Mathlib.Omega.{arith}
use lib.Dec.{leb, ltb, eqb}
use borrow.Author.Tests.{leb-true, leb-false, ltb-true, ltb-false, eqb-true, eqb-false}
use Rattle.lists.proofs.Tests.{test, or_cases, or_false, and_left, and_right, and_false, cond_true, cond_false}
use Rattle.rule.specs.Job.{Job}
use Rattle.rule.specs.Bake.{sooner, soonest_of, soonest}

-- r has the lesser last slot, or the same and no higher ticket
pub record Sooner (r q : Job) : Type 0 where
  pub last : r.last ≤ q.last
  pub ticket : r.last ≡ q.last → r.ticket ≤ q.ticket

pub sooner_true : (r q : Job) → sooner r q ≡ true → Sooner r q
unfolding sooner
sooner_true r q h = go (or_cases (ltb r.last q.last) (eqb r.last q.last && leb r.ticket q.ticket) h)
  where
    go : (ltb r.last q.last ≡ true) ⊎ ((eqb r.last q.last && leb r.ticket q.ticket) ≡ true) → Sooner r q
    go (inl k) = let l = ltb-true r.last q.last k in record { last = omega arith; ticket = λ e. absurd (omega arith) }
    go (inr k) =
        let e = eqb-true r.last q.last (and_left (eqb r.last q.last) (leb r.ticket q.ticket) k) in
        let t = leb-true r.ticket q.ticket (and_right (eqb r.last q.last) (leb r.ticket q.ticket) k) in
        record { last = omega arith; ticket = λ f. t }

pub sooner_false : (r q : Job) → sooner r q ≡ false → Sooner q r
unfolding sooner
sooner_false r q h =
    let c = or_false (ltb r.last q.last) (eqb r.last q.last && leb r.ticket q.ticket) h in
    record { last = ltb-false r.last q.last c.0; ticket = λ e. go e (and_false (eqb r.last q.last) (leb r.ticket q.ticket) c.1) }
  where
    go : q.last ≡ r.last → (eqb r.last q.last ≡ false) ⊎ (leb r.ticket q.ticket ≡ false) → q.ticket ≤ r.ticket
    go e (inl k) = absurd (eqb-false r.last q.last k (sym e))
    go e (inr k) = omega (arith, leb-false r.ticket q.ticket k)

pub sooner_self : (r : Job) → Sooner r r
sooner_self r = record { last = omega arith; ticket = λ e. omega arith }

pub sooner_trans : {p q r : Job} → Sooner p q → Sooner q r → Sooner p r
sooner_trans {p} {q} {r} s t = record { last = omega arith; ticket = λ e. omega (arith, s.ticket (omega arith), t.ticket (omega arith)) }

-- q is the soonest job of A
pub record SoonestOf (A : List Job) (q : Job) : Type 0 where
  pub member : Memᴰ q A
  pub sooner : (r : Job) → Memᴰ r A → Sooner q r

-- one more job in front
soonest_more : (r : Job) (A : List Job) (q : Job) → SoonestOf A q → SoonestOf (r ∷ A) (soonest_of r (some q))
unfolding soonest_of
soonest_more r A q s = go (test (sooner r q))
  where
    go : (sooner r q ≡ true) ⊎ (sooner r q ≡ false) → SoonestOf (r ∷ A) (cond (sooner r q) r q)
    go (inl h) =
        subst (SoonestOf (r ∷ A)) (sym (cond_true (sooner r q) r q h))
        record {
          member = Memᴰ.head refl;
          sooner =
              λ x m.
              ⊎_elim (λ (e : x ≡ r). subst (Sooner r) (sym e) (sooner_self r)) (λ k. sooner_trans (sooner_true r q h) (s.sooner x k))
              (Memᴰ.cases_cons m);
        }
    go (inr h) =
        subst (SoonestOf (r ∷ A)) (sym (cond_false (sooner r q) r q h))
        record {
          member = Memᴰ.tail s.member;
          sooner = λ x m. ⊎_elim (λ (e : x ≡ r). subst (Sooner q) (sym e) (sooner_false r q h)) (λ k. s.sooner x k) (Memᴰ.cases_cons m);
        }

soonest_found : (r : Job) (A : List Job) → SoonestOf (r ∷ A) (soonest_of r (soonest A))
unfolding soonest soonest_of
soonest_found r [] =
    record {
      member = Memᴰ.head refl;
      sooner = λ x m. ⊎_elim (λ (e : x ≡ r). subst (Sooner r) (sym e) (sooner_self r)) (λ k. absurd (Memᴰ.not-nil k)) (Memᴰ.cases_cons m);
    }
soonest_found r (x ∷ A) = soonest_more r (x ∷ A) (soonest_of x (soonest A)) (soonest_found x A)

pub soonest_is : (A : List Job) (q : Job) → soonest A ≡ some q → SoonestOf A q
unfolding soonest
soonest_is [] q e = absurd (none-ne-some q e)
soonest_is (r ∷ A) q e = let f : soonest_of r (soonest A) ≡ q = cc in subst (SoonestOf (r ∷ A)) f (soonest_found r A)

pub soonest_none : (A : List Job) → soonest A ≡ none → A ≡ []
unfolding soonest
soonest_none [] e = refl
soonest_none (r ∷ A) e = absurd (some-ne-none (soonest_of r (soonest A)) e)

pub soonest_some : (A : List Job) {r : Job} → Memᴰ r A → (q : Job) × (soonest A ≡ some q)
unfolding soonest
soonest_some [] m = absurd (Memᴰ.not-nil m)
soonest_some (r ∷ A) m = (soonest_of r (soonest A), refl)

-- One closing of a rule that keeps to the no-regret set of order j: no job is in date, or one of that set is baked.
use mathlib.Core.Path.{◌≡◌, refl, sym, ap, ◌∙◌}
use mathlib.Core.Bool.{true, false, not, ◌&&◌}
use mathlib.Core.Logic.{◌⊎◌, inl, inr, ⊎_elim}
use mathlib.Core.Option.{Option, none, some}
use mathlib.Core.List.{List, Memᴰ}
use Prim.Native.Nat.{ℕ, suc, ◌≤◌, ◌<◌}
use native.Mathlib.Omega.{arith}
use lib.Dec.{eqb}
use borrow.Author.Tests.{eqb-true, eq-eqb, le-leb, leb-true, not-true}
use Rattle.lists.specs.Select.{select, has}
use Rattle.lists.proofs.Tests.{test, never, and_intro, or_cases, or_left, or_right}
use Rattle.lists.proofs.Members.{select_mem, has_mem, mem_has}
use Rattle.rule.specs.Job.{Job, in_date}
use Rattle.rule.specs.Tight.{tight}
use Rattle.rule.specs.Descent.{descend, no_regret_after}
use Rattle.rule.proofs.NoRegret.ByBit.{starting_none}
use Rattle.rule.specs.Bake.{ticket_of}
use Rattle.rule.proofs.NoRegret.Within.{after_mem}
use Rattle.rule.proofs.NoRegret.Order.{after_wider}
use Rattle.rule.proofs.Tight.Counts.{in_date_all}
use Rattle.books.specs.Rule.{valid}
use Rattle.books.specs.NoRegretRule.{keeps_at}
use Rattle.books.proofs.Walks.Tickets.{rising_above, one_job}
use Rattle.books.proofs.Walks.Left.{Left}
use Rattle.books.proofs.Walks.Picks.{found, Found, Search, search}

pub data Kept (j d s : ℕ) (left : List Job) (x : ℕ) : Type 0 where
  idle : has (in_date s) left ≡ false → found s left x ≡ none → Kept j d s left x
  bake : (p : Job) → Memᴰ p (no_regret_after s d j (select (in_date s) left)) → found s left x ≡ some p → Kept j d s left x

-- the set of order 0 is the tight set
pub after_none : (now d : ℕ) (A : List Job) → no_regret_after now d 0 A ≡ tight now A
unfolding no_regret_after descend
after_none now d A = ap (tight now) (starting_none d A)

-- a job of the set is left and in date
pub after_left : (j d s : ℕ) (left : List Job) {p : Job} → Memᴰ p (no_regret_after s d j (select (in_date s) left)) → Memᴰ p left × (s ≤ p.last)
unfolding in_date
after_left j d s left {p} m =
    let k = select_mem (in_date s) p left (after_mem s d j (select (in_date s) left) m) in
    (k.0, leb-true s p.last k.1)

-- the job that a ticket names is found
pub finds : {h s : ℕ} {left : List Job} {p : Job} → Left h left → Memᴰ p left → s ≤ p.last → found s left p.ticket ≡ some p
finds {h} {s} {left} {p} l m e = go (found s left p.ticket) refl
  where
    k : Search s left p.ticket (found s left p.ticket)
    k = search s left p.ticket

    go : (o : Option Job) → found s left p.ticket ≡ o → found s left p.ticket ≡ some p
    go (some r) q = let f = k.is r q in q ∙ ap some (one_job l.rising f.mem m f.ticket)
    go none q =
        never
        (mem_has (λ r. eqb r.ticket p.ticket && in_date s r) m
        (and_intro (eqb p.ticket p.ticket) (in_date s p) (eq-eqb p.ticket p.ticket refl) (unfold in_date in le-leb s p.last e)))
        (k.has_it q)

-- a job that is found is in date
pub found_dated : {s x : ℕ} {left : List Job} {r : Job} → Found s left x r → has (in_date s) left ≡ true
unfolding in_date
found_dated {s} {r = r} f = mem_has (in_date s) f.mem (le-leb s r.last f.date)

pub kept : (j d s h : ℕ) (left : List Job) (x : ℕ) → Left h left → keeps_at j d s left (valid s left x) ≡ true → Kept j d s left x
unfolding keeps_at ticket_of
kept j d s h left x l e = go (or_cases (not (has (in_date s) left)) (has (λ (r : Job). eqb r.ticket (valid s left x)) A) e) (found s left x) refl
  where
    A : List Job
    A = no_regret_after s d j (select (in_date s) left)

    k : Search s left x (found s left x)
    k = search s left x

    go : (not (has (in_date s) left) ≡ true) ⊎ (has (λ (r : Job). eqb r.ticket (valid s left x)) A ≡ true) → (o : Option Job) → found s left x ≡ o
        → Kept j d s left x
    go (inl n) none q = idle (not-true (has (in_date s) left) n) q
    go (inl n) (some r) q = never (found_dated (k.is r q)) (not-true (has (in_date s) left) n)
    go (inr n) none q =
        let (p, m, t) = has_mem (λ (r : Job). eqb r.ticket (valid s left x)) A n in
        absurd
        (omega (
          arith,
          rising_above l.rising (after_left j d s left m).0,
          eqb-true p.ticket (valid s left x) t,
          k.named,
          ap ticket_of q,
        ))
    go (inr n) (some r) q =
        let (p, m, t) = has_mem (λ (r : Job). eqb r.ticket (valid s left x)) A n in
        let f = k.is r q in
        let same : p ≡ r =
        one_job l.rising (after_left j d s left m).0 f.mem
        (eqb-true p.ticket (valid s left x) t ∙ k.named ∙ ap ticket_of q)
        in
        bake p m (q ∙ ap some (sym same))

-- and the other way round
pub kept_at : (j d s : ℕ) (left : List Job) (x : ℕ) → Kept j d s left x → keeps_at j d s left (valid s left x) ≡ true
unfolding keeps_at ticket_of
kept_at j d s left x (idle n q) =
    or_left (not (has (in_date s) left)) (has (λ (r : Job). eqb r.ticket (valid s left x)) (no_regret_after s d j (select (in_date s) left))) (ap not n)
kept_at j d s left x (bake p m q) =
    or_right (not (has (in_date s) left)) (has (λ (r : Job). eqb r.ticket (valid s left x)) (no_regret_after s d j (select (in_date s) left)))
    (mem_has (λ (r : Job). eqb r.ticket (valid s left x)) m (eq-eqb p.ticket (valid s left x) (sym ((search s left x).named ∙ ap ticket_of q))))

-- one order less
pub kept_wider : (j d s : ℕ) (left : List Job) (x : ℕ) → j < d → Kept (suc j) d s left x → Kept j d s left x
kept_wider j d s left x h (idle n q) = idle n q
kept_wider j d s left x h (bake p m q) = bake p (after_wider s d j (select (in_date s) left) (in_date_all s left) h m) q

-- a closing keeps to the set unless it cannot
pub kept_unless : (j d s : ℕ) (left : List Job) (x : ℕ) → ((Kept j d s left x → ⊥) → ⊥) → keeps_at j d s left (valid s left x) ≡ true
kept_unless j d s left x f = ⊎_elim (λ t. t) (λ z. absurd (f (λ k. never (kept_at j d s left x k) z))) (test (keeps_at j d s left (valid s left x)))

-- Our choice is a job of the no-regret set of every order, whenever one is in date.
use mathlib.Core.Path.{◌≡◌, refl, sym, subst}
use mathlib.Core.Bool.{true, false}
use mathlib.Core.Logic.{◌⊎◌, inl, inr}
use mathlib.Core.Option.{Option, none, some}
use mathlib.Core.List.Memᴰ
use mathlib.Core.List.{List, [], Memᴰ}
use Prim.Native.Nat.{ℕ, zero, suc, ◌+◌, ◌-◌, ◌≤◌}
use native.Mathlib.Omega.{arith}
use Rattle.lists.specs.Select.{select}
use Rattle.lists.proofs.Tests.{test}
use Rattle.lists.proofs.Members.{mem_select, none_has}
use Rattle.rule.specs.Job.{Job, in_date}
use Rattle.rule.specs.Descent.{no_regret_after, no_regret}
use Rattle.rule.specs.Bake.{baked, ticket_of}
use Rattle.rule.proofs.NoRegret.Within.{baked_is, baked_none}
use Rattle.rule.proofs.NoRegret.Order.{after_wider}
use Rattle.rule.proofs.Tight.Counts.{in_date_all}
use Rattle.books.specs.Book.{Beginning, Change}
use Rattle.books.specs.NoRegretRule.{our_choice}
use Rattle.books.proofs.Walks.Tickets.{rising_above}
use Rattle.books.proofs.Walks.Left.{Left}
use Rattle.books.proofs.Walks.Picks.{found, search}
use Rattle.books.proofs.Runs.Kept.{Kept, idle, bake, after_left, finds}

-- no job has ticket 0, so that where none is in date the ticket 0 keeps to every order
kept_idle : (j d s : ℕ) {h : ℕ} {left : List Job} → Left h left → select (in_date s) left ≡ [] → Kept j d s left 0
kept_idle j d s {left = left} l e = idle (none_has (in_date s) left (λ x m. dated (test (in_date s x)) m)) (none_found (found s left 0) refl)
  where
    none_found : (o : Option Job) → found s left 0 ≡ o → found s left 0 ≡ none
    none_found none e = e
    none_found (some r) e =
        let f = (search s left 0).is r e in
        absurd (omega (arith, rising_above l.rising f.mem, f.ticket))

    dated : {x : Job} → (in_date s x ≡ true) ⊎ (in_date s x ≡ false) → Memᴰ x left → in_date s x ≡ false
    dated {x} (inl t) m = absurd (Memᴰ.not-nil (subst (Memᴰ x) e (mem_select (in_date s) m t)))
    dated (inr t) m = t

-- a choice that finds a job of order j in date, if there is one
pub kept_choice : (j d s : ℕ) {h : ℕ} {left : List Job} → Left h left → (o : Option Job) → (o ≡ none → select (in_date s) left ≡ [])
    → ((p : Job) → o ≡ some p → Memᴰ p (no_regret_after s d j (select (in_date s) left))) → Kept j d s left (ticket_of o)
unfolding ticket_of
kept_choice j d s l none f g = kept_idle j d s l (f refl)
kept_choice j d s {left = left} l (some p) f g = let k = after_left j d s left (g p refl) in bake p (g p refl) (finds l k.0 k.1)

-- a set of a higher order lies within those of lower order
after_down : (s d i j : ℕ) (A : List Job) {p : Job} → ((r : Job) → Memᴰ r A → s ≤ r.last) → i + j ≤ d
    → Memᴰ p (no_regret_after s d (i + j) A) → Memᴰ p (no_regret_after s d j A)
after_down s d zero j A {p} a h m = subst (λ n. Memᴰ p (no_regret_after s d n A)) (let z : 0 + j ≡ j = omega arith in z) m
after_down s d (suc i) j A {p} a h m =
    after_down s d i j A a (omega arith)
    (after_wider s d (i + j) A a (omega arith) (subst (λ n. Memᴰ p (no_regret_after s d n A)) (let z : suc i + j ≡ suc (i + j) = omega arith in z) m))

-- the job baked is of the last order
baked_last : (s d : ℕ) (A : List Job) (p : Job) → baked s d A ≡ some p → Memᴰ p (no_regret_after s d d A)
unfolding no_regret
baked_last s d A p e = (baked_is s d A p e).member

-- our choice is of every order
pub ours_kept : (j d : ℕ) (b : Beginning) (past : List Change) (s h : ℕ) (left : List Job) → j ≤ d → Left h left → Kept j d s left (our_choice d b past s left)
unfolding our_choice
ours_kept j d b past s h left k l =
    let A = select (in_date s) left in
    let i : d - j + j ≡ d = omega arith in
    kept_choice j d s l (baked s d A) (baked_none s d A)
    (λ p e.
    after_down s d (d - j) j A (in_date_all s left) (omega arith) (subst (λ x. Memᴰ p (no_regret_after s d x A)) (sym i) (baked_last s d A p e)))

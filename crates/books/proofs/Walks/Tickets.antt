-- Jobs with rising tickets: a ticket names one job, and baking it takes just that job away.
use mathlib.Core.Path.{◌≡◌, refl, sym, ap, ◌∙◌, subst}
use mathlib.Core.Bool.{Bool, true, not}
use mathlib.Core.Logic.{⊎_elim}
use mathlib.Core.List.Memᴰ
use mathlib.Core.List.{List, [], ◌∷◌, ◌++◌, map, Memᴰ, map-append}
use Prim.Native.Nat.{ℕ, ◌≤◌, ◌<◌}
use native.Mathlib.Omega.{arith}
use lib.Dec.{ltb, eqb}
use borrow.Author.Tests.{lt-ltb, eqb-false, ne_eqb, not-true}
use Rattle.lists.specs.Select.{select}
use Rattle.lists.specs.Rise.{rise}
use Rattle.lists.proofs.Tests.{and_right, and_intro}
use Rattle.lists.proofs.Rising.{rise_above, rise_append}
use Rattle.lists.proofs.Parts.{rise_select}
use Rattle.lists.proofs.Members.{select_mem, mem_select}
use Rattle.rule.specs.Job.{Job}
use Rattle.books.specs.Rule.{without}

abbrev pub tickets : List Job → List ℕ
tickets L = map (λ (r : Job). r.ticket) L

-- the tickets of L rise, the first above m
pub record Rising (m : ℕ) (L : List Job) : Type 0 where
  pub rises : rise m (tickets L) ≡ true

pub rising_nil : (m : ℕ) → Rising m []
rising_nil m = record { rises = unfold rise in refl }

pub rising_tail : {m : ℕ} {r : Job} {L : List Job} → Rising m (r ∷ L) → Rising r.ticket L
rising_tail {m} {r} {L} h = record { rises = unfold rise in and_right (ltb m r.ticket) (rise r.ticket (tickets L)) h.rises }

pub rising_cons : {m : ℕ} {r : Job} {L : List Job} → m < r.ticket → Rising r.ticket L → Rising m (r ∷ L)
rising_cons {m} {r} {L} l h =
    record { rises = unfold rise in and_intro (ltb m r.ticket) (rise r.ticket (tickets L)) (lt-ltb m r.ticket l) h.rises }

pub rising_above : {m : ℕ} {x : Job} {L : List Job} → Rising m L → Memᴰ x L → m < x.ticket
rising_above {m} h k = rise_above m h.rises (Memᴰ.map (λ (r : Job). r.ticket) k)

-- a ticket names one job
pub one_job : {x y : Job} {m : ℕ} {L : List Job} → Rising m L → Memᴰ x L → Memᴰ y L → x.ticket ≡ y.ticket → x ≡ y
one_job h (Memᴰ.head e) (Memᴰ.head f) q = e ∙ sym f
one_job h (Memᴰ.head e) (Memᴰ.tail k) q = absurd (omega (arith, rising_above (rising_tail h) k, ap (λ (y : Job). y.ticket) e))
one_job h (Memᴰ.tail k) (Memᴰ.head e) q = absurd (omega (arith, rising_above (rising_tail h) k, ap (λ (y : Job). y.ticket) e))
one_job h (Memᴰ.tail k) (Memᴰ.tail l) q = one_job (rising_tail h) k l q

-- a selection rises too
pub rising_select : (p : Job → Bool) {m : ℕ} (L : List Job) → Rising m L → Rising m (select p L)
rising_select p {m} L h = record { rises = rise_select (λ (r : Job). r.ticket) p m L h.rises }

-- what is left when a ticket is baked: the jobs with another ticket
pub without_mem : (t : ℕ) (L : List Job) {r : Job} → Memᴰ r (without t L) → Memᴰ r L × (r.ticket ≡ t → ⊥)
unfolding without
without_mem t L {r} m =
    let k = select_mem (λ x. not (eqb x.ticket t)) r L m in
    (k.0, λ e. eqb-false r.ticket t (not-true (eqb r.ticket t) k.1) e)

-- which were among the jobs before, with others behind
pub without_mem_append : (t : ℕ) (L C : List Job) {r : Job} → Memᴰ r (without t L ++ C) → Memᴰ r (L ++ C)
without_mem_append t L C m =
    ⊎_elim (λ k. Memᴰ.append_left C (without_mem t L k).0) (λ k. Memᴰ.append_right L k) (Memᴰ.append_cases (without t L) m)

pub mem_without : (t : ℕ) {L : List Job} {r : Job} → Memᴰ r L → (r.ticket ≡ t → ⊥) → Memᴰ r (without t L)
unfolding without
mem_without t {L} {r} m f = mem_select (λ x. not (eqb x.ticket t)) m (ap not (ne_eqb r.ticket t f))

-- jobs above those of a rising list go on with it
pub rising_append : {m : ℕ} (n : ℕ) (K L : List Job) → Rising m K → ((x : Job) → Memᴰ x K → x.ticket ≤ n) → m ≤ n → Rising n L → Rising m (K ++ L)
rising_append {m} n K L h b c g =
    record {
      rises =
          subst (λ (l : List ℕ). rise m l ≡ true) (sym (map-append (λ (r : Job). r.ticket) K L))
          (rise_append m n (tickets K) (tickets L) h.rises
          (λ x k. let r = Memᴰ.of_map (λ (r : Job). r.ticket) K k in omega (arith, b r.0 r.1, r.2)) c g.rises);
    }

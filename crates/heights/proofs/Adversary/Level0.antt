-- Whoever takes a job beyond the tight slot is beaten in all: there are arrivals with the grade g on which every schedule that goes on from there takes fewer
-- jobs than every tight run that takes a tight job instead.
use mathlib.Core.Path.{◌≡◌, refl}
use mathlib.Core.Bool.{Bool, true}
use mathlib.Core.List.{List}
use Prim.Native.Nat.{ℕ, zero, suc, ◌+◌, ◌-◌, ◌≤◌, ◌<◌}
use native.Mathlib.Omega.{arith}
use lib.ListN.{length}
use Rattle.heights.proofs.Heights.Part.{Part, ◌⊕◌, Out, out_less, not_above}
use Rattle.heights.proofs.Heights.TightSlot.{TightSlot}
use Rattle.heights.proofs.Schedule.Run.{TightStep, AnyStep, stop, next, TightRun, Schedule, sum}
use Rattle.heights.proofs.Items.Item.{part, parts}
use Rattle.heights.proofs.Adversary.Allowed.{Grades, Arrivals}
use Rattle.heights.proofs.Adversary.Arrivals.{arrival, arrival_past, arrival_fit, feed, feed_fit}
use Rattle.heights.proofs.Adversary.Bounds.{least_start, Shrinks, AtMost, most_step, shrink_out, shrink_none, AtLeast, least_some, least_step}

-- b is past every job
module _ (m b : ℕ) (g : List Bool) (mb : m ≤ b) where
  any_shrinks : {t k : ℕ} {X T : Part} → t ≤ b → X.at (suc b) ≡ 0 → AnyStep t X T k
      → Shrinks m b t k X (T ⊕ part (arrival m (suc t) g)) × (T.at (suc b) ≡ 0)
  any_shrinks {t} {X = X} {T} tb z (AnyStep.rest k) =
      (shrink_none g (T ⊕ part (arrival m (suc t) g)) mb tb k (λ s. refl), omega (arith, k.is (suc b) (omega arith)))
  any_shrinks {t} {X = X} {T} tb z (AnyStep.take p o) =
      let e : T.at (suc b) ≡ 0 = omega (arith, out_less o (suc b) (omega arith)) in
      (shrink_out g (T ⊕ part (arrival m (suc t) g)) mb tb o (omega arith) (λ s. refl), e)

  most : (k t : ℕ) (X : Part) (cs : List ℕ) → t + k ≤ suc b → X.at (suc b) ≡ 0 → Schedule t X (parts (feed m t k g)) cs → AtMost m b t (sum cs) X
  unfolding feed
  most zero t X cs h z stop = record { early = λ i. omega arith; late = λ i. omega arith }
  most (suc k) t X cs h z (next {ks = ks} T c x r) =
      let s = any_shrinks (omega arith) z x in
      most_step (sum ks) (c + sum ks) s.0
      (most k (suc t) (T ⊕ part (arrival m (suc t) g)) ks (omega arith) (omega (arith, s.1, arrival_past m (suc t) g (suc b) (omega arith))) r) refl

  tight_least : {E t k : ℕ} {X T : Part} → t < E → E ≤ suc b → X.at (suc b) ≡ 0 → AtLeast m b E t X → TightStep t X T k
      → (k ≡ 1) × AtLeast m b E (suc t) (T ⊕ part (arrival m (suc t) g)) × (T.at (suc b) ≡ 0)
  tight_least tE Eb z I (TightStep.rest e k) = absurd (omega (arith, least_some I mb tE Eb))
  tight_least {t = t} {X = X} {T} tE Eb z I (TightStep.take l p U o pl) =
      let lb : l ≤ b = not_above l b (λ i. omega (arith, U.present, X.anti (suc b) l i)) in
      (refl, least_step g (T ⊕ part (arrival m (suc t) g)) I mb tE Eb U o pl lb (λ s. refl), omega (arith, o.rest.high (suc b) (omega arith) (omega arith)))

  least : (E k t : ℕ) (X : Part) (es : List ℕ) → E ≤ suc b → t + k ≡ E → X.at (suc b) ≡ 0 → AtLeast m b E t X
      → TightRun t X (parts (feed m t k g)) es → k ≤ sum es
  unfolding feed
  least E zero t X es Eb h z I r = omega arith
  least E (suc k) t X es Eb h z I (next {ks = ks} T e x r) =
      let s = tight_least (omega arith) Eb z I x in
      omega (
        arith,
        s.0,
        least E k (suc t) (T ⊕ part (arrival m (suc t) g)) ks Eb (omega arith) (omega (arith, s.2, arrival_past m (suc t) g (suc b) (omega arith))) s.1 r,
      )

-- arrivals on which what goes on from A takes fewer than what goes on tight from C
pub record Beaten0 (ok : Grades) (d n : ℕ) (A C : Part) : Type 0 where
  pub by : Arrivals ok d n
  pub wins : (cs es : List ℕ) → Schedule (suc n) (A ⊕ part by.first) (parts by.later) cs → TightRun (suc n) (C ⊕ part by.first) (parts by.later) es
      → sum cs < sum es

pub beaten0 : {n l p q : ℕ} {S A C : Part} (ok : Grades) (d : ℕ) (g : List Bool) → ok g ≡ true → length g ≡ d → TightSlot n S l → Out n p S A → l < p
    → Out n q S C → q ≤ l
    → Beaten0 ok d n A C
beaten0 {n} {l} {p} {q} {S} {A} {C} ok d g gok gbits T a lp c ql =
    let E = suc l + S.at (suc l) in
    let b = S.end + E in
    let i = T.date in
    let F = arrival l (suc n) g in
    let past = arrival_past l (suc n) g in
    let none : S.at (suc b) ≡ 0 = omega (arith, S.none, S.anti S.end (suc b) (omega arith)) in
    let a_none : A.at (suc b) ≡ 0 = omega (arith, out_less a (suc b) (omega arith)) in
    let c_none : C.at (suc b) ≡ 0 = omega (arith, out_less c (suc b) (omega arith)) in
    let I : AtLeast l b E (suc n) (C ⊕ part F) = least_start g (C ⊕ part F) T c ql (omega arith) (omega arith) (λ s. refl) in
    record {
      by =
          record {
            first = F;
            first_fit = arrival_fit ok d l (suc n) g gok gbits;
            later = feed l (suc n) (E - suc n) g;
            later_fit = feed_fit ok d l (suc n) (E - suc n) g gok gbits;
          };
      wins =
          λ cs es r s.
          omega (
            arith,
            (most l b g (omega arith) (E - suc n) (suc n) (A ⊕ part F) cs (omega arith) (omega (arith, past (suc b) (omega arith))) r).early (omega arith),
            least l b g (omega arith) E (E - suc n) (suc n) (C ⊕ part F) es (omega arith) (omega arith) (omega (arith, past (suc b) (omega arith))) I s,
            a.rest.low (suc l) (omega arith) lp,
            past (suc l) (omega arith),
          );
    }

-- The job that is baked: of the grade that the descent ends at, the soonest job of all. The tight laxity is one that some of these jobs has, so the soonest is
-- in the tight set.
use mathlib.Core.Path.{◌≡◌, sym, ap, ◌∙◌, subst}
use mathlib.Core.Logic.{⊎_elim}
use mathlib.Core.Bool.{Bool}
use mathlib.Core.List.Memᴰ
use mathlib.Core.List.{List, map, Memᴰ}
use mathlib.Core.Option.{some}
use Prim.Native.Nat.{ℕ, ◌^◌, ◌≤◌, ◌<◌}
use native.Mathlib.Nat.{div-one}
use native.Mathlib.Omega.{arith}
use lib.Dec.{leb, eqb}
use borrow.Author.Tests.{leb-true, le-leb, eqb-true, eq-eqb}
use Rattle.lists.specs.Least.{least}
use Rattle.lists.proofs.Tests.{cmp}
use Rattle.lists.proofs.Least.{least_mem, least_least}
use Rattle.lists.proofs.Members.{select_mem, mem_select}
use Rattle.rule.specs.Job.{Job, laxity}
use Rattle.rule.specs.Grade.{bits, graded, starting}
use Rattle.rule.specs.Tight.{laxities, tight_laxity, tight}
use Rattle.rule.specs.Descent.{descend}
use Rattle.rule.specs.Bake.{baked}
use Rattle.rule.proofs.Earliest.{SoonestOf}
use Rattle.rule.proofs.NoRegret.Within.{starting_mem, mem_starting, baked_is, baked_some}
use Rattle.search.specs.Inner.Start.{Start, first_bits}
use Rattle.search.proofs.Start.{starts_so}
use Rattle.search.proofs.NextBit.{no_regret_found}

-- the soonest job of the tight set is the soonest of all
soonest_of_all : (now : ℕ) (B : List Job) (q : Job) → SoonestOf (tight now B) q → SoonestOf B q
unfolding tight laxity
soonest_of_all now B q s =
    let within : Job → Bool = λ r. leb (laxity now r) (tight_laxity now B) in
    let m = select_mem within q B s.member in
    let l = leb-true (laxity now q) (tight_laxity now B) m.1 in
    record {
      member = m.0;
      sooner =
          λ r i.
          ⊎_elim
          (λ (h : laxity now r ≤ tight_laxity now B). s.sooner r (mem_select within i (le-leb (laxity now r) (tight_laxity now B) h)))
          (λ (h : tight_laxity now B < laxity now r). record { last = omega (arith, l, h); ticket = λ e. absurd (omega (arith, l, h, e)) })
          (cmp (laxity now r) (tight_laxity now B));
    }

-- A are jobs of grades of depth d, and g is one of these grades
module _ (now d : ℕ) (A : List Job) (small : (r : Job) → Memᴰ r A → r.grade < 2 ^ d) (g : ℕ) (fits : Start d g 0) where
  abbrev group : List Job
  group = starting d (first_bits d g 0) A

  of_grade_test : (r : Job) → Memᴰ r A → graded d (first_bits d g 0) r ≡ eqb r.grade g
  of_grade_test r m = starts_so d 0 g fits r (small r m) ∙ ap (λ x. eqb x g) (div-one r.grade)

  -- q is baked: it has the grade g and laxity w, and of the jobs with both the lowest ticket
  pub record Due (w : ℕ) (q : Job) : Type 0 where
    pub is_baked : baked now d A ≡ some q
    pub member : Memᴰ q A
    pub of_grade : q.grade ≡ g
    pub least : laxity now q ≡ w
    pub lowest : (r : Job) → Memᴰ r A → r.grade ≡ g → r.last ≡ q.last → q.ticket ≤ r.ticket

  -- where the descent ends at g, and w is the least laxity of its jobs
  pub due : (w : ℕ) {r : Job} → Memᴰ r A → bits d g ≡ descend now d A d (first_bits d 0 d) → w ≡ least (laxities now group) → (q : Job) × Due w q
  unfolding laxities laxity
  due w m e f =
      let (q, b) = baked_some now d A m in
      let s = soonest_of_all now group q (subst (λ X. SoonestOf X q) (no_regret_found now d A g e) (baked_is now d A q b)) in
      let i = starting_mem d (first_bits d g 0) A s.member in
      let (r, j, l) = Memᴰ.of_map (laxity now) group (least_mem (map (laxity now) group) (Memᴰ.map (laxity now) s.member)) in (
        q,
        record {
          is_baked = b;
          member = i.0;
          of_grade = eqb-true q.grade g (sym (of_grade_test q i.0) ∙ i.1);
          least = omega (arith, f, l, (s.sooner r j).last, least_least (map (laxity now) group) (Memᴰ.map (laxity now) s.member));
          lowest = λ p k a o. (s.sooner p (mem_starting d (first_bits d g 0) k (of_grade_test p k ∙ eq-eqb p.grade g a))).ticket (sym o);
        },
      )

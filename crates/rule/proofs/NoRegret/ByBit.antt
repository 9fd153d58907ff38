-- The descent as a recursion on lists: each step keeps the jobs whose next bit is the chosen one, and goes on with one bit less.
use mathlib.Core.Path.{◌≡◌, refl, sym, ap, ◌∙◌}
use mathlib.Core.Bool.{Bool, true, false, not, ◌&&◌, beq}
use mathlib.Core.List.{List, [], ◌∷◌, ◌++◌}
use Prim.Native.Nat.{ℕ, zero, suc, ◌+◌, ◌/◌, ◌%◌, ◌^◌, ◌≤◌}
use native.Mathlib.Omega.{arith}
use lib.Dec.{eqb}
use lib.ListN.{length, length-append}
use Rattle.lists.proofs.Members.{select_select, select_cong, select_all, has_cong}
use Rattle.rule.specs.Job.{Job}
use Rattle.rule.specs.Grade.{bits, starts, graded, starting}
use Rattle.rule.specs.Tight.{tight}
use Rattle.rule.specs.Descent.{next_bit, descend, no_regret_after}
use Rattle.rule.proofs.NoRegret.Within.{starting_mem, tight_in}

-- the no-regret set after j bits, where each job of A has e bits left to read
unfoldable pub by_bit : (now j e : ℕ) → List Job → List Job
by_bit now zero e A = tight now A
by_bit now (suc j) zero A = tight now A
by_bit now (suc j) (suc e) A = by_bit now j e (starting (suc e) (next_bit now (suc e) A [] ∷ []) A)

and_assoc : (a b c : Bool) → (a && (b && c)) ≡ ((a && b) && c)
and_assoc true b c = refl
and_assoc false b c = refl

-- a start in two parts: the second is read in the bits that are left
starts_append_is : (d e : ℕ) (u v : List Bool) (g : ℕ) → d ≡ length u + e → starts (u ++ v) (bits d g) ≡ (starts u (bits d g) && starts v (bits e g))
unfolding starts bits
starts_append_is d e [] v g h = let k : d ≡ e = omega arith in ap (λ x. starts v (bits x g)) k
starts_append_is zero e (b ∷ u) v g h = absurd (omega arith)
starts_append_is (suc d) e (b ∷ u) v g h =
    let c = beq b (eqb (g / 2 ^ d % 2) 1) in
    ap (λ x. c && x) (starts_append_is d e u v g (omega arith)) ∙ and_assoc c (starts u (bits d g)) (starts v (bits e g))

pub graded_append : (d e : ℕ) (u v : List Bool) (r : Job) → d ≡ length u + e → graded d (u ++ v) r ≡ (graded d u r && graded e v r)
unfolding graded
graded_append d e u v r h = starts_append_is d e u v r.grade h

pub starting_append : (d e : ℕ) (u v : List Bool) (A : List Job) → d ≡ length u + e → starting d (u ++ v) A ≡ starting e v (starting d u A)
unfolding starting
starting_append d e u v A h =
    select_cong (graded d (u ++ v)) (λ r. graded d u r && graded e v r) A (λ r m. graded_append d e u v r h) ∙ sym (select_select (graded e v) (graded d u) A)

-- every grade starts with no bits
pub starting_none : (d : ℕ) (A : List Job) → starting d [] A ≡ A
unfolding starting graded starts
starting_none d A = select_all (graded d []) A (λ r m. refl)

-- the next bit after u is the first bit of the jobs that start with u
next_bit_below : (now d e : ℕ) (A : List Job) (u : List Bool) → d ≡ length u + e → next_bit now d A u ≡ next_bit now e (starting d u A) []
unfolding next_bit
next_bit_below now d e A u h =
    rw (starting_none e (starting d u A))
    (ap not
    (has_cong (graded d (u ++ (false ∷ []))) (graded e (false ∷ [])) (tight now (starting d u A))
    (λ r m. graded_append d e u (false ∷ []) r h ∙ rw (starting_mem d u A (tight_in now (starting d u A) m)).1)))

-- below a start u
below_by_bit : (now d e j : ℕ) (A : List Job) (u : List Bool) → d ≡ length u + e → j ≤ e
    → tight now (starting d (descend now d A j u) A) ≡ by_bit now j e (starting d u A)
unfolding descend by_bit
below_by_bit now d e zero A u h l = refl
below_by_bit now d zero (suc j) A u h l = absurd (omega arith)
below_by_bit now d (suc e) (suc j) A u h l =
    let b = next_bit now d A u in
    below_by_bit now d e j A (u ++ (b ∷ [])) (omega (arith, length-append u (b ∷ []))) (omega arith)
    ∙ ap (by_bit now j e) (starting_append d (suc e) u (b ∷ []) A h ∙ ap (λ c. starting (suc e) (c ∷ []) (starting d u A)) (next_bit_below now d (suc e) A u h))

-- from the top
pub after_by_bit : (now d j : ℕ) (A : List Job) → j ≤ d → no_regret_after now d j A ≡ by_bit now j d A
unfolding no_regret_after
after_by_bit now d j A h = below_by_bit now d d j A [] (omega arith) h ∙ ap (by_bit now j d) (starting_none d A)

-- What a rule's schedule bakes in the first k slots, counted off the jobs that it bakes.
use mathlib.Core.Path.{◌≡◌, refl, sym, ap, ◌∙◌}
use mathlib.Core.Bool.{Bool, true, false, ◌&&◌}
use mathlib.Core.Option.{Option, none, some, none-ne-some}
use mathlib.Core.List.{List, [], ◌∷◌, map, Memᴰ}
use Prim.Native.Nat.{ℕ, zero, suc, ◌+◌, ◌<◌}
use native.Mathlib.Omega.{arith}
use lib.Dec.{eqb}
use lib.ListN.{get_or}
use borrow.Author.Tests.{eqb-true, eq-eqb, ne_eqb}
use Rattle.lists.specs.Select.{one_if, has}
use Rattle.lists.proofs.Tests.{and_left, and_right, and_intro, cond_true, cond_false, same_test}
use Rattle.lists.proofs.Members.{has_mem, mem_has, none_has}
use Rattle.rule.specs.Job.{Job}
use Rattle.rule.specs.Bake.{ticket_of}
use Rattle.books.specs.Book.{Book, jobs}
use Rattle.books.specs.Schedule.{Schedule, gives, baked_in, from_slot}
use Rattle.books.specs.Rule.{Rule, choices, made_by}
use Rattle.books.specs.Rival.{Setting, Tried}
use Rattle.books.proofs.Walks.Place.{start}
use Rattle.books.proofs.Walks.Tickets.{Rising, rising_above, one_job}
use Rattle.books.proofs.Walks.Left.{jobs_rising}
use Rattle.books.proofs.Walks.Picks.{picks, picks_choices, picks_from}

-- the ticket of each slot
pub from_slot_at : (s : ℕ) (ts : List ℕ) (i : ℕ) → from_slot s ts (s + i) ≡ get_or ts i 0
unfolding from_slot
from_slot_at s [] zero = refl
from_slot_at s [] (suc i) = refl
from_slot_at s (t ∷ ts) zero = cond_true (eqb (s + 0) s) t (from_slot (suc s) ts (s + 0)) (eq-eqb (s + 0) s (omega arith))
from_slot_at s (t ∷ ts) (suc i) =
    cond_false (eqb (s + suc i) s) t (from_slot (suc s) ts (s + suc i)) (ne_eqb (s + suc i) s (λ e. omega arith))
    ∙ ap (from_slot (suc s) ts) (let z : s + suc i ≡ suc s + i = omega arith in z) ∙ from_slot_at (suc s) ts i

-- the job of a slot passes the test
unfoldable pub passes : (Job → Bool) → Option Job → Bool
passes q none = false
passes q (some r) = q r

-- as a number
pub one_none : (q : Job → Bool) {o : Option Job} → o ≡ none → one_if (passes q o) ≡ 0
one_none q e = ap (λ (o : Option Job). one_if (passes q o)) e ∙ (unfold passes one_if in refl)

pub one_some : (q : Job → Bool) {o : Option Job} {r : Job} → o ≡ some r → one_if (passes q o) ≡ one_if (q r)
one_some q e = ap (λ (o : Option Job). one_if (passes q o)) e ∙ (unfold passes in refl)

-- of a test that each job passes
abbrev pub any : Job → Bool
any r = true

pub one_any : {o : Option Job} {r : Job} → o ≡ some r → one_if (passes any o) ≡ 1
one_any e = one_some any e ∙ (unfold one_if in refl)

-- how many of the first k do
unfoldable pub tally : (Job → Bool) → List (Option Job) → ℕ → ℕ
tally q os zero = 0
tally q [] (suc k) = 0
tally q (o ∷ os) (suc k) = one_if (passes q o) + tally q os k

pub tally_none : (q : Job → Bool) (os : List (Option Job)) → tally q os 0 ≡ 0
unfolding tally
tally_none q [] = refl
tally_none q (o ∷ os) = refl

pub tally_last : (q : Job → Bool) (os : List (Option Job)) (k : ℕ) → tally q os (suc k) ≡ tally q os k + one_if (passes q (get_or os k none))
unfolding tally passes one_if
tally_last q [] zero = refl
tally_last q [] (suc k) = refl
tally_last q (o ∷ os) zero = omega (arith, tally_none q os)
tally_last q (o ∷ os) (suc k) = omega (arith, tally_last q os k)

getD_map_ticket : (os : List (Option Job)) (i : ℕ) → get_or (map ticket_of os) i 0 ≡ ticket_of (get_or os i none)
unfolding ticket_of
getD_map_ticket [] zero = refl
getD_map_ticket [] (suc i) = refl
getD_map_ticket (o ∷ os) zero = refl
getD_map_ticket (o ∷ os) (suc i) = getD_map_ticket os i

pub getD_mem : (os : List (Option Job)) (i : ℕ) (r : Job) → get_or os i none ≡ some r → Memᴰ (some r) os
getD_mem [] zero r e = absurd (none-ne-some r e)
getD_mem [] (suc i) r e = absurd (none-ne-some r e)
getD_mem (o ∷ os) zero r e = Memᴰ.head (sym e)
getD_mem (o ∷ os) (suc i) r e = Memᴰ.tail (getD_mem os i r e)

-- a slot that is given the ticket of a job of the book passes if the job does
gives_job : (q : Job → Bool) (J : List Job) (o : Option Job) → Rising 0 J → ((r : Job) → o ≡ some r → Memᴰ r J)
    → has (λ r. eqb r.ticket (ticket_of o) && q r) J ≡ passes q o
unfolding passes ticket_of
gives_job q J none h f =
    none_has (λ r. eqb r.ticket 0 && q r) J (λ x m. ap (λ b. b && q x) (ne_eqb x.ticket 0 (λ e. omega (arith, rising_above h m))))
gives_job q J (some r) h f =
    same_test (has at J) (q r)
    (λ e.
    let x = has_mem at J e in
    let same = one_job h x.1 (f r refl) (eqb-true x.0.ticket r.ticket (and_left (eqb x.0.ticket r.ticket) (q x.0) x.2)) in
    sym (ap q same) ∙ and_right (eqb x.0.ticket r.ticket) (q x.0) x.2)
    (λ e. mem_has at (f r refl) (and_intro (eqb r.ticket r.ticket) (q r) (eq-eqb r.ticket r.ticket refl) e))
  where
    at : Job → Bool
    at x = eqb x.ticket r.ticket && q x

-- the picks of a rule on a book
abbrev pub picks_on : Rule → ℕ → Book → List (Option Job)
picks_on q d B = picks q d B.beginning (start B.beginning) B.changes

-- its tickets are those of the picks
pub choices_at : (q : Rule) (d : ℕ) (B : Book) (k : ℕ)
    → get_or (choices q d B.beginning [] B.beginning.slot B.beginning.jobs B.changes) k 0 ≡ ticket_of (get_or (picks_on q d B) k none)
choices_at q d B k =
    ap (λ (ts : List ℕ). get_or ts k 0) (picks_choices q d B.beginning (start B.beginning) B.changes) ∙ getD_map_ticket (picks_on q d B) k

-- a pick is a job of the book
pub picked_job : (q : Rule) (d : ℕ) (B : Book) (k : ℕ) (r : Job) → get_or (picks_on q d B) k none ≡ some r → Memᴰ r (jobs B)
unfolding jobs
picked_job q d B k r e = picks_from q d B.beginning (start B.beginning) B.changes r (getD_mem (picks_on q d B) k r e)

-- a slot that is given the ticket of a job of the book, or none
pub gives_as : {S : Setting} {B : Book} (test : Job → Bool) (p : Schedule) (s : ℕ) (o : Option Job) → Tried S B → p s ≡ ticket_of o
    → ((r : Job) → o ≡ some r → Memᴰ r (jobs B)) → gives test B p s ≡ passes test o
unfolding gives
gives_as {S} {B} test p s o T e f = ap (λ t. has (λ r. eqb r.ticket t && test r) (jobs B)) e ∙ gives_job test (jobs B) o (jobs_rising S B T) f

-- what is baked, slot by slot
pub baked_each : (test : Job → Bool) (B : Book) (p : Schedule) (os : List (Option Job)) (k : ℕ)
    → ((i : ℕ) → i < k → gives test B p (B.beginning.slot + i) ≡ passes test (get_or os i none)) → baked_in test B p k ≡ tally test os k
unfolding baked_in
baked_each test B p os zero f = sym (tally_none test os)
baked_each test B p os (suc k) f =
    omega (arith, baked_each test B p os k (λ i h. f i (omega arith)), tally_last test os k, ap one_if (f k (omega arith)))

pub baked_tally : (S : Setting) (B : Book) → Tried S B → (q : Rule) (d : ℕ) (test : Job → Bool) (k : ℕ)
    → baked_in test B (made_by q d B) k ≡ tally test (picks_on q d B) k
baked_tally S B T q d test k =
    baked_each test B (made_by q d B) (picks_on q d B) k (λ i h. gives_as test (made_by q d B) (B.beginning.slot + i) (get_or (picks_on q d B) i none) T (ticket i) (picked_job q d B i))
  where
    ticket : (i : ℕ) → made_by q d B (B.beginning.slot + i) ≡ ticket_of (get_or (picks_on q d B) i none)
    ticket i =
        unfold made_by in
        (from_slot_at B.beginning.slot (choices q d B.beginning [] B.beginning.slot B.beginning.jobs B.changes) i ∙ choices_at q d B i)
